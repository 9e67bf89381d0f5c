-- Each call that doesn't make the timers stale keeps them right.
use Rattle.std.proofs.Common.{nat_lt, nat_le, ◌-◌, ℕ, ◌≡◌, ◌≢◌, ◌+◌, ◌≤◌, ◌<◌, Bool, true, false, not, ◌&&◌, ◌||◌, refl, sym, ap, subst, ◌∙◌, List, Option, None, Some, arith}
use Rattle.std.specs.Prelude.{◌==◌, is_some, unwrap_or, if◌then◌else◌}
use Rattle.std.proofs.lemmas.Grind.{common_steps}
use Rattle.std.specs.FinMap as map
use Rattle.std.specs.Cmp.{nat_cmp_total, unsigned_tied}
use Rattle.std.specs.Ordering.{nat_cmp}
use Rattle.jitter_timers.specs.Timers.{Times}
use Rattle.jitter_model.specs.declared.Arrival.{Arrival}
use Rattle.jitter_model.specs.declared.Settings.{Settings}
use Rattle.jitter_model.specs.declared.Held.{Held}
use Rattle.jitter_model.specs.declared.Mark.{Mark}
use Rattle.jitter_model.specs.declared.Packet.{Packet as PacketType}
use Rattle.jitter_model.specs.declared.Turn.{Turn}
use Rattle.jitter_model.specs.declared.Turn.TheVariants.{Packet, Lost, Request, End, Idle, Flushing}
use Rattle.jitter_model.specs.declared.Verdict.{Verdict}
use Rattle.jitter_model.specs.declared.Verdict.TheVariants.{Accepted, Aside, Restart, Late, Duplicate, Full, Stray, Flushing as Flushes, Ended}
use Rattle.jitter_model.specs.declared.Pushed.{Pushed}
use Rattle.jitter_model.specs.Requests.{lesser, later, due, Asked, wanted_missing, wanted_next, Wanted}
use Rattle.jitter_model.specs.Times.{expected}
use Rattle.jitter_model.specs.Turns.{Sight, low, deadline, wanted, packet_turn, request_turn, lost_turn, is_lost, ends_loss, loss_end, asked, turn_by}
use Rattle.jitter_core.proofs.Asking.{some_if, value_if}
use Rattle.jitter_core.specs.declared.peaks.Peak.{Peak}
use Rattle.jitter_core.specs.declared.schedule.Schedule.{Schedule}
use Rattle.jitter_core.specs.declared.state.Progress.{Progress}
use Rattle.jitter_core.specs.declared.state.Span.{Span}
use Rattle.jitter_core.specs.declared.state.State.{State}
use Rattle.jitter_core.specs.Calls.{passed, resumed}
use Rattle.jitter_core.specs.Peaks.{above, stamp_from}
use Rattle.jitter_core.specs.Pushing.{PushStep, SegmentAfter, takes}
use Rattle.jitter_core.specs.Requesting.{first_due_by}
use Rattle.jitter_core.specs.Served.{served_in}
use Rattle.jitter_core.specs.Steps.{IsBounded, LeavesSegment, IsSame}
use Rattle.jitter_core.specs.Scheduling.{pending_of, pending, is_over, IsTimer, AreTimers, AreTimersBelow, AreLater, IsTimed}
use Rattle.jitter_core.proofs.Serving.{IsRequest, requests}
use Rattle.jitter_core.specs.Turning.{TellsEnd, state_asked, state_wake, output_turn, have_ended, state_sight, state_turn, Gives, Loses, TurnDoes}
use Rattle.jitter_core.proofs.Agreeing.{after_two}
use Rattle.jitter_core.proofs.Carrying.{Keeps, carry, below_none}
use Rattle.jitter_core.proofs.Firsts.{stamp_next}
use Rattle.jitter_core.proofs.Kept.{expected-two}
use Rattle.jitter_core.proofs.Timers.{pending_held}
use Rattle.jitter_core.proofs.Cases.{by_turn}
use Rattle.jitter_model.specs.Known.{RepliesTell}
use Rattle.jitter_model.specs.Known.{SearchesFindTheLeast}

-- ---- what a number's requests go by

pub wanted_by : (s : Settings) (v w : Sight) (q : ℕ) → w.top ≡ v.top → w.among q ≡ v.among q → w.first_due q ≡ v.first_due q → expected w.marks q ≡ expected v.marks q → w.latency ≡ v.latency → w.ended ≡ v.ended → ((latency top : ℕ) → wanted_next s latency top w.marks ≡ wanted_next s latency top v.marks) → w.served q ≡ v.served q → Keeps s v w q
wanted_by s v w q top among first expects latency ended after served =
    let same : wanted s w q ≡ wanted s v q = rw (top, among, first, expects, latency, ended, after v.latency v.top) refl in
    record { wanted_is = same; pending_is = ap (λ (x : Option Wanted). pending_of s (w.served q) x) same ∙ ap (λ (k : ℕ). pending_of s k (wanted s v q)) served }

-- a timer after a call, by the settings and the lowest number
pub timer_at : (old new : State) (to q : ℕ) (g : Option ℕ) → new.settings ≡ old.settings → low (state_sight new) new.span.next ≡ to → IsTimer old.settings (state_sight new) to q g → IsTimer new.settings (state_sight new) (low (state_sight new) new.span.next) q g
timer_at old new to q g same at h =
    subst (λ (s : Settings). IsTimer s (state_sight new) (low (state_sight new) new.span.next) q g) (sym same)
    (subst (λ (n : ℕ). IsTimer old.settings (state_sight new) n q g) (sym at) h)

-- ---- calls that leave what requests go by

pub record Leaves (old new : State) : Type 0 where
  pub settings : new.settings ≡ old.settings
  pub span : new.span ≡ old.span
  pub held : new.held ≡ old.held
  pub heights : new.heights ≡ old.heights
  pub peaks : new.peaks ≡ old.peaks
  pub served : new.served ≡ old.served
  pub latency : new.progress.latency ≡ old.progress.latency
  pub ended : new.progress.ended ≡ old.progress.ended
  pub time : old.progress.time ≤ new.progress.time

pub low_by : (new old : State) (o p : Option ℕ) → o ≡ p → (state_sight new).least ≡ (state_sight old).least → low (state_sight new) o ≡ low (state_sight old) p
low_by new old None None e l = l
low_by new old (Some x) (Some y) e l = cc
low_by new old None (Some y) e l = cc
low_by new old (Some x) None e l = cc

same_low : (old new : State) → new.span ≡ old.span → low (state_sight new) new.span.next ≡ low (state_sight old) old.span.next
same_low old new e = low_by new old new.span.next old.span.next (ap (λ (x : Span). x.next) e) (ap (λ (x : Span). unwrap_or x.least 0) e)

leaves_keeps : (old new : State) (q : ℕ) → Leaves old new → Keeps old.settings (state_sight old) (state_sight new) q
leaves_keeps old new q l =
    wanted_by old.settings (state_sight old) (state_sight new) q
    (ap (λ (x : Span). unwrap_or x.top 0) l.span)
    (ap (λ (m : map.FinMap nat_cmp Held). is_some (map.get m q)) l.held)
    (ap (λ (s : Settings). first_due_by s new.peaks q) l.settings ∙ ap (λ (ps : List Peak). first_due_by old.settings ps q) l.peaks)
    (ap (λ (ms : List Mark). expected ms q) l.heights)
    l.latency
    (ap (λ (s : Settings). have_ended s.pushers new.progress.ended) l.settings ∙ ap (have_ended old.settings.pushers) l.ended)
    (λ latency top. ap (wanted_next old.settings latency top) l.heights)
    (ap (λ xs. served_in xs q) l.served)

leaves_timer : (old new : State) (q : ℕ) (g : Option ℕ) → Leaves old new
    → IsTimer old.settings (state_sight old) (low (state_sight old) old.span.next) q g
    → IsTimer new.settings (state_sight new) (low (state_sight new) new.span.next) q g
leaves_timer old new q g l h =
    timer_at old new (low (state_sight old) old.span.next) q g l.settings (same_low old new l.span)
    (carry old.settings (state_sight old) (state_sight new) (low (state_sight old) old.span.next) (low (state_sight old) old.span.next) q g h (omega arith) (λ _. leaves_keeps old new q l) l.time (λ lt. below_none old.settings (state_sight old) (low (state_sight old) old.span.next) q g h lt))

pub leaves_timers : (old new : State) (m : Times) → Leaves old new → AreTimers old m → AreTimers new m
leaves_timers old new m l h q = leaves_timer old new q (map.get m q) l (h q)

leaves_below : (old new : State) (n : ℕ) (m : Times) → Leaves old new → AreTimersBelow old n m
    → AreTimersBelow new n m
leaves_below old new n m l h =
    record {
      requests = ap (λ (s : Settings). s.rtx) l.settings ∙ h.requests;
      right = λ q lt. leaves_timer old new q (map.get m q) l (h.right q lt);
      above = λ q e. omega (arith, h.above q e, same_low old new l.span);
      below = λ q e. omega (arith, h.below q e, ap (λ (y : Span). unwrap_or y.top 0) l.span);
      missing = λ q e. ap (λ (m : map.FinMap nat_cmp Held). is_some (map.get m q)) l.held
          ∙ h.missing q e;
    }

pub leaves_timed : (old new : State) (x : Schedule) → Leaves old new → IsTimed old x → IsTimed new x
leaves_timed old new x l t =
    record {
      room = t.room;
      right = λ e. leaves_timers old new x.timers.times l (t.right e);
      below = λ n e some. leaves_below old new n x.timers.times l (t.below n e some);
    }

pub passed_timed : (s : State) (x : Schedule) (t : ℕ) → IsTimed s x → IsTimed (passed s t) x
passed_timed s x t h = leaves_timed s (passed s t) x (record { settings = refl; span = refl; held = refl; heights = refl; peaks = refl; served = refl; latency = refl; ended = refl; time = omega arith }) h

pub resumed_timed : (s : State) (x : Schedule) → IsTimed s x → IsTimed (resumed s) x
resumed_timed s x h = leaves_timed s (resumed s) x (record { settings = refl; span = refl; held = refl; heights = refl; peaks = refl; served = refl; latency = refl; ended = refl; time = omega arith }) h

left_segment : (old new : State) (a : Arrival) (v : Verdict) → takes v ≡ false → SegmentAfter old a v new → LeavesSegment old new
left_segment old new a Accepted e s = cc
left_segment old new a (Restart d) e s = cc
left_segment old new a Aside e s = s
left_segment old new a Late e s = s
left_segment old new a Duplicate e s = s
left_segment old new a Full e s = s
left_segment old new a Stray e s = s
left_segment old new a Flushes e s = s
left_segment old new a Ended e s = s

pub refused_timed : (old new : State) (x : Schedule) (a : Arrival) (p : Pushed) → PushStep old new a p → takes p.verdict ≡ false → IsTimed old x → IsTimed new x
refused_timed old new x a p r e h =
    let l : LeavesSegment old new = left_segment old new a p.verdict e r.segment in
    leaves_timed old new x
    (record { settings = r.settings; span = l.span; held = l.held; heights = l.heights; peaks = l.peaks; served = l.served; latency = ap (λ (y : Progress). y.latency) r.progress; ended = ap (λ (y : Progress). y.ended) r.progress; time = rw r.progress (omega arith) }) h

-- ---- where no requests are made

wanted_off : (s : Settings) (v : Sight) (q : ℕ) → s.rtx ≡ false → wanted s v q ≡ None
wanted_off s v q off = rw off refl

timer_off : (s : Settings) (v w : Sight) (from to q : ℕ) (g : Option ℕ) → s.rtx ≡ false
    → IsTimer s v from q g → IsTimer s w to q g
timer_off s v w from to q None off h =
    record {
      some = λ t e. cc;
      none = λ _ _ not. (let over = ap (is_over w.time) (wanted_off s w q off) in cc);
    }
timer_off s v w from to q (Some t) off h =
    let is = (h.some t refl).1 in
    let none = ap (pending_of s (v.served q)) (wanted_off s v q off) in
    absurd cc

pub off_timed : (old new : State) (x : Schedule) → new.settings ≡ old.settings
    → old.settings.rtx ≡ false → IsTimed old x → IsTimed new x
off_timed old new x same off h =
    record {
      room = h.room;
      right = λ fresh q.
          timer_at old new (low (state_sight new) new.span.next) q (map.get x.timers.times q) same refl
          (timer_off old.settings (state_sight old) (state_sight new)
          (low (state_sight old) old.span.next) (low (state_sight new) new.span.next) q
          (map.get x.timers.times q) off (h.right fresh q));
      below = λ n e some. (let on = (h.below n e some).requests in absurd cc);
    }

-- stale timers need only have their room
pub stale_timed : (s : State) (x : Schedule) → x.timers.room ≡ 16384 → x.stale_from ≡ Some 0 → IsTimed s x
stale_timed s x room e =
    record {
      room = room;
      right = λ f. absurd cc;
      below = λ n f some. (let zero : 0 ≡ n = cc in absurd (omega arith));
    }

-- ---- a packet is given out

pub record IsGift (s : Settings) (v : Sight) (o : Option ℕ) (n : ℕ) : Type 0 where
  pub is_low : n ≡ low v o
  pub there : is_some (v.held n) ≡ true

record AreGifts (s : Settings) (v : Sight) (o : Option ℕ) (n pts : ℕ) (p : PacketType) (r : Turn) : Type 0 where
  fact : Packet n pts p ≡ r → IsGift s v o n

by_held : (s : Settings) (v : Sight) (o : Option ℕ) (n pts : ℕ) (p : PacketType) (x : Option Held) → v.held (low v o) ≡ x → AreGifts s v o n pts p (packet_turn (low v o) x)
by_held s v o n pts p None e = record { fact = λ f. cc }
by_held s v o n pts p (Some x) e = record { fact = λ f. let is : n ≡ low v o = cc in record { is_low = is; there = rw (is, e) refl } }

no_request : (s : Settings) (v : Sight) (o : Option ℕ) (n pts : ℕ) (p : PacketType) (x : Option Asked) → AreGifts s v o n pts p (request_turn x)
no_request s v o n pts p None = record { fact = λ e. cc }
no_request s v o n pts p (Some a) = record { fact = λ e. cc }

gifts : (s : Settings) (v : Sight) (o : Option ℕ) (n pts : ℕ) (p : PacketType) → Packet n pts p ≡ turn_by s v o → IsGift s v o n
gifts s v o n pts p is =
    (by_turn (AreGifts s v o n pts p) s v o
    (λ _. record { fact = λ e. cc })
    (λ _ _. no_request s v o n pts p (asked s v o))
    (λ _ _ _. by_held s v o n pts p (v.held (low v o)) refl)
    (λ _ _ _ _. record { fact = λ e. cc })
    (λ _ _ _ _ _. record { fact = λ e. cc })
    (λ _ _ _ _ _. record { fact = λ e. cc })).fact is

first_after : (s : Settings) (ps : List Peak) (n q : ℕ) → n ≤ q → first_due_by s (above n ps) q ≡ first_due_by s ps q
first_after s ps n q le =
    ap (λ (x : Option ℕ). lesser (later s.rtx_delay x) (if s.reorder == 0 then None else stamp_from (above n ps) (q + s.reorder))) (stamp_next (Some n) (q + 1) ps (omega arith))
    ∙ ap (λ (x : Option ℕ). lesser (later s.rtx_delay (stamp_from ps (q + 1))) x)
    (elim (s.reorder == 0) as (λ b. (s.reorder == 0) ≡ b → (if b then None else stamp_from (above n ps) (q + s.reorder)) ≡ (if b then None else stamp_from ps (q + s.reorder))) [
      | true ↦ λ _. refl
      | false ↦ λ e. stamp_next (Some n) (q + s.reorder) ps (grind (arith, common_steps))
    ] refl)

removed_other : (m : map.FinMap nat_cmp Held) (n q : ℕ) → q ≢ n → is_some (map.get (map.remove m n) q) ≡ is_some (map.get m q)
removed_other m n q other =
    let apart : (q == n) ≡ false = grind (arith, common_steps) in
    ap is_some (map.get-remove nat_cmp_total m n q ∙ ap (λ (b : Bool). if b then None else map.get m q) (unsigned_tied q n ∙ apart))

gives_keeps : (old new : State) (n q : ℕ) → Gives old new n → n + 1 ≤ q → Keeps old.settings (state_sight old) (state_sight new) q
gives_keeps old new n q d le =
    wanted_by old.settings (state_sight old) (state_sight new) q
    (ap (λ (x : Span). unwrap_or x.top 0) d.span)
    (ap (λ (m : map.FinMap nat_cmp Held). is_some (map.get m q)) d.held ∙ removed_other old.held n q (omega arith))
    (ap (λ (s : Settings). first_due_by s new.peaks q) d.settings ∙ ap (λ (ps : List Peak). first_due_by old.settings ps q) d.peaks ∙ first_after old.settings old.peaks (n + 1) q le)
    (ap (λ (ms : List Mark). expected ms q) d.heights ∙ expected-two (n + 1) q old.heights le)
    (ap (λ (x : Progress). x.latency) d.progress)
    (ap (λ (s : Settings). have_ended s.pushers new.progress.ended) d.settings ∙ ap (λ (x : Progress). have_ended old.settings.pushers x.ended) d.progress)
    (λ latency top. ap (wanted_next old.settings latency top) d.heights ∙ after_two old.settings (Some (n + 1)) latency top old.heights)
    (ap (λ xs. served_in xs q) d.served)

not_pending : (s : Settings) (v : Sight) (from q : ℕ) (o : Option ℕ) → IsTimer s v from q o → pending s v q ≡ None → o ≡ None
not_pending s v from q None h e = refl
not_pending s v from q (Some t) h e = let is : pending s v q ≡ Some t = (h.some t refl).1 in cc

given_none : (s : State) (n q : ℕ) (o : Option ℕ) → IsGift s.settings (state_sight s) s.span.next n → n ≤ unwrap_or s.span.top 0 → IsTimer s.settings (state_sight s) (low (state_sight s) s.span.next) q o → q < n + 1 → o ≡ None
given_none s n q o x top h lt =
    elim (q == n) as (λ b. (q == n) ≡ b → o ≡ None) [
      | true ↦ λ e. let same : q ≡ n = grind (arith, common_steps) in
          not_pending s.settings (state_sight s) (low (state_sight s) s.span.next) q o h (subst (λ (k : ℕ). pending s.settings (state_sight s) k ≡ None) (sym same) (pending_held s.settings (state_sight s) n top x.there))
      | false ↦ λ e. let other : q ≢ n = grind (arith, common_steps) in
          below_none s.settings (state_sight s) (low (state_sight s) s.span.next) q o h (omega (arith, x.is_low, other))
    ] refl

pub given_timers : (old new : State) (n pts : ℕ) (p : PacketType) (m : Times) → IsBounded old → Packet n pts p ≡ state_turn old → Gives old new n → AreTimers old m → AreTimers new m
given_timers old new n pts p m b is d h q =
    let x : IsGift old.settings (state_sight old) old.span.next n = gifts old.settings (state_sight old) old.span.next n pts p is in
    let top : n ≤ unwrap_or old.span.top 0 = (b.held_to n x.there).1 in
    timer_at old new (n + 1) q (map.get m q) d.settings (ap (λ (y : Span). low (state_sight new) y.next) d.span)
    (carry old.settings (state_sight old) (state_sight new) (low (state_sight old) old.span.next) (n + 1) q (map.get m q) (h q) (omega (arith, x.is_low)) (λ le. gives_keeps old new n q d le) (rw d.progress (omega arith))
    (λ lt. given_none old n q (map.get m q) x top (h q) lt))

-- ---- numbers are declared lost

-- a loss: it begins at the lowest number, ends at the greatest at the latest, and each of its numbers is past its deadline
pub record IsLoss (v : Sight) (o : Option ℕ) (n count : ℕ) : Type 0 where
  pub is_low : n ≡ low v o
  pub to : n + count ≤ v.top
  pub over : (q : ℕ) → n ≤ q → q < n + count → deadline v q ≤ v.time

record AreLosses (v : Sight) (o : Option ℕ) (n count pts d : ℕ) (r : Turn) : Type 0 where
  fact : Lost n count pts d ≡ r → IsLoss v o n count

lost_low : (v : Sight) (o : Option ℕ) → is_lost v o ≡ true → (low v o < v.top) × (deadline v (low v o) ≤ v.time)
lost_low v None e = cc
lost_low v (Some n) e = (grind (arith, common_steps), grind (arith, common_steps))

not_yet : (b : Bool) (d t : ℕ) → (b || nat_lt t d) ≡ false → d ≤ t
not_yet true d t e = cc
not_yet false d t e = grind (arith, common_steps)

over_at : (v : Sight) (n m : ℕ) → ends_loss v m ≡ false → deadline v m ≤ v.time
over_at v n m e = not_yet (v.among m) (deadline v m) v.time e

over_by : SearchesFindTheLeast → (v : Sight) (o : Option ℕ) (q : ℕ) → deadline v (low v o) ≤ v.time → low v o ≤ q → q < loss_end v (low v o) → deadline v q ≤ v.time
over_by searches v o q first from to =
    elim (low v o == q) as (λ b. (low v o == q) ≡ b → deadline v q ≤ v.time) [
      | true ↦ λ e. let same : low v o ≡ q = grind (arith, common_steps) in subst (λ (k : ℕ). deadline v k ≤ v.time) same first
      | false ↦ λ e. let later : low v o + 1 ≤ q = grind (arith, common_steps) in over_at v (low v o) q (searches.before (ends_loss v) (low v o + 1) (v.top - (low v o + 1)) q later to)
    ] refl

by_end : SearchesFindTheLeast → (v : Sight) (o : Option ℕ) (n count pts d : ℕ) → is_lost v o ≡ true → AreLosses v o n count pts d (lost_turn v.marks (low v o) (loss_end v (low v o)))
by_end searches v o n count pts d l =
    record {
      fact = λ e.
          let x : (low v o < v.top) × (deadline v (low v o) ≤ v.time) = lost_low v o l in
          let start : n ≡ low v o = cc in
          let long : count ≡ loss_end v (low v o) - low v o = cc in
          let above : low v o + 1 ≤ loss_end v (low v o) = searches.from (ends_loss v) (low v o + 1) (v.top - (low v o + 1)) in
          let most : loss_end v (low v o) ≤ low v o + 1 + (v.top - (low v o + 1)) = searches.to (ends_loss v) (low v o + 1) (v.top - (low v o + 1)) in
          record {
            is_low = start;
            to = omega (arith, x.0);
            over = λ q from to. over_by searches v o q x.1 (omega arith) (omega arith);
          };
    }

no_gift : (v : Sight) (o : Option ℕ) (n count pts d : ℕ) (x : Option Held) → AreLosses v o n count pts d (packet_turn (low v o) x)
no_gift v o n count pts d None = record { fact = λ e. cc }
no_gift v o n count pts d (Some p) = record { fact = λ e. cc }

nothing_asked : (v : Sight) (o : Option ℕ) (n count pts d : ℕ) (x : Option Asked) → AreLosses v o n count pts d (request_turn x)
nothing_asked v o n count pts d None = record { fact = λ e. cc }
nothing_asked v o n count pts d (Some a) = record { fact = λ e. cc }

losses : SearchesFindTheLeast → (s : Settings) (v : Sight) (o : Option ℕ) (n count pts d : ℕ) → Lost n count pts d ≡ turn_by s v o → IsLoss v o n count
losses searches s v o n count pts d is =
    (by_turn (AreLosses v o n count pts d) s v o
    (λ _. record { fact = λ e. cc })
    (λ _ _. nothing_asked v o n count pts d (asked s v o))
    (λ _ _ _. no_gift v o n count pts d (v.held (low v o)))
    (λ _ _ _ l. by_end searches v o n count pts d l)
    (λ _ _ _ _ _. record { fact = λ e. cc })
    (λ _ _ _ _ _. record { fact = λ e. cc })).fact is

-- the limit of a missing number's requests is its deadline
limit_by : (r a : Bool) (first : Option ℕ) (limit : ℕ) (w : Wanted) → (if r then None else if a then wanted_missing first limit else None) ≡ Some w → w.limit ≡ limit
limit_by true a first limit w e = cc
limit_by false false first limit w e = cc
limit_by false true None limit w e = cc
limit_by false true (Some x) limit w e = let same : record { first = x; limit = limit } ≡ w = cc in ap (λ (y : Wanted). y.limit) (sym same)

limit_is : (s : Settings) (v : Sight) (q : ℕ) (w : Wanted) → q < v.top → wanted s v q ≡ Some w → w.limit ≡ deadline v q
limit_is s v q w lt e =
    let below : nat_lt q v.top ≡ true = grind (arith, common_steps) in
    let after : (q == v.top + 1) ≡ false = grind (arith, common_steps) in
    limit_by (not s.rtx) (not (v.among q)) (v.first_due q) (deadline v q) w (let f : wanted s v q ≡ Some w = e in rw (below, after) at f)

-- a timer lies before the limit
before_limit : (s : Settings) (served limit t : ℕ) (x : Option Wanted) → ((w : Wanted) → x ≡ Some w → w.limit ≡ limit) → pending_of s served x ≡ Some t → t < limit
before_limit s served limit t None f e = cc
before_limit s served limit t (Some w) f e =
    let both : (nat_le served s.rtx_max && nat_lt (due s w.first served) w.limit) ≡ true = some_if _ (due s w.first served) t e in
    let same : due s w.first served ≡ t = value_if _ (due s w.first served) t e in
    let is : w.limit ≡ limit = f w refl in
    let lt : due s w.first served < w.limit = grind (arith, common_steps) in
    omega arith

lost_none : (s : State) (n count q : ℕ) (o : Option ℕ) → IsLoss (state_sight s) s.span.next n count → IsTimer s.settings (state_sight s) (low (state_sight s) s.span.next) q o → ((t : ℕ) → o ≡ Some t → s.progress.time < t) → q < n + count → o ≡ None
lost_none s n count q None x h l lt = refl
lost_none s n count q (Some t) x h l lt =
    let from : low (state_sight s) s.span.next ≤ q = (h.some t refl).0 in
    let pends : pending s.settings (state_sight s) q ≡ Some t = (h.some t refl).1 in
    let over : deadline (state_sight s) q ≤ s.progress.time = x.over q (omega (arith, x.is_low)) lt in
    let top : q < unwrap_or s.span.top 0 = omega (arith, x.to) in
    let before : t < deadline (state_sight s) q = before_limit s.settings (served_in s.served q) (deadline (state_sight s) q) t (wanted s.settings (state_sight s) q) (λ w e. limit_is s.settings (state_sight s) q w top e) pends in
    absurd (omega (arith, l t refl))

loses_keeps : (old new : State) (m q : ℕ) → Loses old new m → m ≤ q → Keeps old.settings (state_sight old) (state_sight new) q
loses_keeps old new m q d le =
    wanted_by old.settings (state_sight old) (state_sight new) q
    (ap (λ (x : Span). unwrap_or x.top 0) d.span)
    (ap (λ (m : map.FinMap nat_cmp Held). is_some (map.get m q)) d.held)
    (ap (λ (s : Settings). first_due_by s new.peaks q) d.settings ∙ ap (λ (ps : List Peak). first_due_by old.settings ps q) d.peaks ∙ first_after old.settings old.peaks m q le)
    (ap (λ (ms : List Mark). expected ms q) d.heights ∙ expected-two m q old.heights le)
    (ap (λ (x : Progress). x.latency) d.progress)
    (ap (λ (s : Settings). have_ended s.pushers new.progress.ended) d.settings ∙ ap (λ (x : Progress). have_ended old.settings.pushers x.ended) d.progress)
    (λ latency top. ap (wanted_next old.settings latency top) d.heights ∙ after_two old.settings (Some m) latency top old.heights)
    (ap (λ xs. served_in xs q) d.served)

lost_timers : SearchesFindTheLeast → (old new : State) (n count pts e : ℕ) (m : Times) → Lost n count pts e ≡ state_turn old → Loses old new (n + count) → AreTimers old m → AreLater old.progress.time m → AreTimers new m
lost_timers searches old new n count pts e m is d h l q =
    let x : IsLoss (state_sight old) old.span.next n count = losses searches old.settings (state_sight old) old.span.next n count pts e is in
    timer_at old new (n + count) q (map.get m q) d.settings (ap (λ (y : Span). low (state_sight new) y.next) d.span)
    (carry old.settings (state_sight old) (state_sight new) (low (state_sight old) old.span.next) (n + count) q (map.get m q) (h q) (omega (arith, x.is_low)) (λ le. loses_keeps old new (n + count) q d le) (rw d.progress (omega arith))
    (λ lt. lost_none old n count q (map.get m q) x (h q) (l q) lt))

-- ---- all turns without a request

ends_leave : (old new : State) → TellsEnd old new → Leaves old new
ends_leave old new d =
    record { settings = d.settings; span = d.segment.span; held = d.segment.held; heights = d.segment.heights; peaks = d.segment.peaks; served = d.segment.served; latency = ap (λ (x : Progress). x.latency) d.progress; ended = ap (λ (x : Progress). x.ended) d.progress; time = rw d.progress (omega arith) }

same_leave : (old new : State) → IsSame old new → Leaves old new
same_leave old new d =
    record { settings = d.settings; span = d.segment.span; held = d.segment.held; heights = d.segment.heights; peaks = d.segment.peaks; served = d.segment.served; latency = ap (λ (x : Progress). x.latency) d.progress; ended = ap (λ (x : Progress). x.ended) d.progress; time = rw d.progress (omega arith) }

no_some : (o : Option Asked) → is_some o ≡ true → o ≡ None → ⊥
no_some None e f = cc
no_some (Some x) e f = cc

output_timers : RepliesTell → SearchesFindTheLeast → (old new : State) (r : Turn) (m : Times) → IsBounded old → r ≡ state_turn old → state_asked old ≡ None → TurnDoes old r new → AreTimers old m → AreLater old.progress.time m → AreTimers new m
output_timers replies searches old new (Packet n pts p) m b is none d h l = given_timers old new n pts p m b is d h
output_timers replies searches old new (Lost n count pts e) m b is none d h l = lost_timers searches old new n count pts e m is d h l
output_timers replies searches old new (Request n k) m b is none d h l = let x : IsRequest old.settings (state_sight old) old.span.next n k = requests replies old.settings (state_sight old) old.span.next n k is in absurd (let some : is_some (state_asked old) ≡ true = x.is_asked in no_some (state_asked old) some none)
output_timers replies searches old new End m b is none d h l = leaves_timers old new m (ends_leave old new d) h
output_timers replies searches old new (Idle wake) m b is none d h l = leaves_timers old new m (same_leave old new d) h
output_timers replies searches old new Flushing m b is none d h l = leaves_timers old new m (same_leave old new d) h

-- the reply where no request is due
pub turn_without : (s : State) (r : Turn) (wake : Option ℕ) → s.progress.flushing ≡ false → state_asked s ≡ None → wake ≡ state_wake s → r ≡ output_turn (state_sight s) s.span.next wake → r ≡ state_turn s
turn_without s r wake f none w is = is ∙ ap (λ (x : Option ℕ). output_turn (state_sight s) s.span.next x) w ∙ sym (rw (f, none) refl)

pub output_timed : RepliesTell → SearchesFindTheLeast → (old new : State) (r : Turn) (x : Schedule) → IsBounded old → r ≡ state_turn old → state_asked old ≡ None → TurnDoes old r new → x.timers.room ≡ 16384 → AreTimers old x.timers.times → AreLater old.progress.time x.timers.times → x.stale_from ≡ None → IsTimed new x
output_timed replies searches old new r x b is none d room h l fresh =
    record {
      room = room;
      right = λ _. output_timers replies searches old new r x.timers.times b is none d h l;
      below = λ n e _. absurd cc;
    }
