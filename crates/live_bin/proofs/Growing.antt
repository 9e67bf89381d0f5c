-- What the calls leave for those that follow.
use Rattle.std.proofs.Common.{ℕ, zero, suc, ◌≡◌, ◌≢◌, ◌+◌, ◌<◌, ◌≤◌, ◌==◌, inl, inr, Bool, true, false, not, ◌&&◌, ◌||◌, refl, sym, ap, subst, ◌∙◌, List, [], ◌∷◌, ◌++◌, length, None, Some, Result, Ok, Err, IfOk, OnOk, arith, if◌then◌else◌}
use Rattle.std.specs.Prelude.{nat_lt, unwrap_or, slice_get}
use Rattle.std.proofs.lemmas.Grind.{common_steps}
use Rattle.std.proofs.lemmas.List.{append-nil, append_assoc}
use Rattle.std.proofs.Math.Logic.{∥∥₁_elim, ∥∥₁_map}
use Rattle.std.proofs.Props.{props}
use Rattle.jitter_model.specs.declared.Settings.{Settings}
use Rattle.jitter_model.specs.declared.Entry.{Entry as Call}
use Rattle.jitter_model.specs.declared.Entry.TheVariants as call
use Rattle.jitter_model.specs.declared.Turn.{Turn}
use Rattle.jitter_model.specs.declared.Turn.TheVariants as reply
use Rattle.jitter_model.specs.History.{History, is_pusher, all_ended, end_told, is_end}
use Rattle.jitter_model.specs.Turns.{turn, is_quiet, left}
use Rattle.jitter_model.specs.Runs.{Run}
use Rattle.live_bin.specs.declared.plan.Delivery.TheVariants as brought
use Rattle.live_bin.specs.declared.plan.ControlEvent.TheVariants as control
use Rattle.live_bin.specs.declared.plan.Plan.{Plan}
use Rattle.live_bin.specs.declared.plan.PlanLane.{PlanLane}
use Rattle.live_bin.specs.declared.entry.Entry.{Entry}
use Rattle.live_bin.specs.declared.entry.Entry.TheVariants.{Clock, Packet, Lost, Request, End}
use Rattle.live_bin.specs.declared.entry.Next.{Next}
use Rattle.live_bin.specs.declared.entry.Next.TheVariants.{Again, Wait, Flushing, Ended, Stopped}
use Rattle.live_bin.specs.declared.lane.Progress.{Progress}
use Rattle.live_bin.specs.declared.lane.Lane.{Lane}
use Rattle.live_bin.specs.Plans.{IsLane, AreRight, queue}
use Rattle.live_bin.specs.Lookup.{lane_of, no_lane}
use Rattle.live_bin.specs.Steps.{IsSame, Adds, Rests, DeliversNext, ControlsNext, TakesTurn, TurnDoes, given_of, ended_of, with_given, with_control, left_for, can_end, next_after}
use Rattle.live_bin.specs.Words.{newest, lane_in, history, is_over, answer}
use Rattle.live_bin.specs.Kept.{IsKept}
use Rattle.live_bin.specs.Whole.{IsWhole}
use Rattle.live_bin.specs.Grows.{Grows, HaveEnded, IsReady, GoesOn, Sleeps, Comes, Wakes, waiting, pending, turn_of, turned_on, after_turn}
use Rattle.live_bin.proofs.Pushers.{clash, set_given, set_ended, pusher_small}
use Rattle.live_bin.proofs.Keeping.{Knows, CanTake}
use Rattle.live_bin.proofs.Calls.{EndsIt, history_added, reply_is, turn_value}
use Rattle.live_bin.proofs.Right.{can_take, few_pushers}
use Rattle.live_bin.proofs.States.{LooksUp, kept_here, right_here, run_of}
use Rattle.live_bin.proofs.Machine.{open_turn}
use Rattle.live_bin.proofs.Wholes.{RestsAfter, all_each, no_flush, whole}

-- ---- journals go on

adds_grows : (s t : Lane) (e : Entry) (x : Call) (g : Progress) → Adds s t e x g → ((q : ℕ) → ended_of s.progress q ≡ true → ended_of g q ≡ true) → Grows s t
adds_grows s t e x g a ended =
    record { number = a.number; stopped = a.stopped; journal = (e ∷ [], sym a.journal); ended = λ q h. ap (λ (y : Progress). ended_of y q) a.progress ∙ ended q h }

pub same_grows : (s t : Lane) → IsSame s t → Grows s t
same_grows s t e =
    record { number = e.number; stopped = e.stopped; journal = ([], append-nil s.journal.items ∙ sym e.journal); ended = λ q h. ap (λ (y : Progress). ended_of y q) e.progress ∙ h }

rests_grows : (s t : Lane) (r : Turn) → Rests s t r → Grows s t
rests_grows s t r e =
    record { number = e.number; stopped = e.stopped; journal = ([], append-nil s.journal.items ∙ sym e.journal); ended = λ q h. ap (λ (y : Progress). ended_of y q) e.progress ∙ h }

pub deliver_grows : (l : PlanLane) (s t : Lane) (q : ℕ) → DeliversNext l s t q → Grows s t
deliver_grows l s t q (brought.Packet a, is, (v, n, dropped, adds)) = adds_grows s t _ _ _ adds (λ r h. h)
deliver_grows l s t q (brought.Report r j ntp_ns rtp, is, (sync, adds)) = adds_grows s t _ _ _ adds (λ x h. h)

pub control_grows : (l : PlanLane) (s t : Lane) → ControlsNext l s t → Grows s t
control_grows l s t (control.Clock at, is, a) = adds_grows s t _ _ _ a (λ q h. h)
control_grows l s t (control.FlushStart, is, (count, a)) = adds_grows s t _ _ _ a (λ q h. h)
control_grows l s t (control.FlushStop, is, a) = adds_grows s t _ _ _ a (λ q h. h)
control_grows l s t (control.Latency ns, is, a) = adds_grows s t _ _ _ a (λ q h. h)

or_true : (b : Bool) → (b || true) ≡ true
or_true true = refl
or_true false = refl

pub end_grows : (p : Plan) (s t : Lane) (q : ℕ) → q < 9 → IsKept p s → EndsIt s t q → Grows s t
end_grows p s t q small kept a =
    adds_grows s t _ _ _ a (λ r h. ∥∥₁_elim kept (hlevel props) (λ k. set_ended s.progress.ended q r (omega (arith, k.counts.ended_long, small)) ∙ (rw h (or_true (r == q)))))

takes_grows : (s t : Lane) (r : Turn) → TakesTurn s t r → Grows s t
takes_grows s t (reply.Packet n pts x) a = adds_grows s t _ _ _ a (λ q h. h)
takes_grows s t (reply.Lost n count pts duration) a = adds_grows s t _ _ _ a (λ q h. h)
takes_grows s t (reply.Request n i) a = adds_grows s t _ _ _ a (λ q h. h)
takes_grows s t reply.End a = adds_grows s t _ _ _ a (λ q h. h)
takes_grows s t (reply.Idle w) a = rests_grows s t _ a
takes_grows s t reply.Flushing a = rests_grows s t _ a

pub turn_grows : (s t : Lane) (n : Next) → TurnDoes s t n → Grows s t
turn_grows s t n (inl (off, is, e)) = same_grows s t e
turn_grows s t n (inr (on, (r, is, a))) = takes_grows s t r a

pub tick_grows : (s u : Lane) (t : ℕ) → Adds s u (Clock 9 t) (call.Clock t) s.progress → Grows s u
tick_grows s u t a = adds_grows s u _ _ _ a (λ q h. h)

pub grows_refl : (s : Lane) → Grows s s
grows_refl s = record { number = refl; stopped = refl; ended = λ q e. e; journal = ([], append-nil s.journal.items) }

pub grows_then : (s t u : Lane) → Grows s t → Grows t u → Grows s u
grows_then s t u g h =
    record {
      number = h.number ∙ g.number;
      stopped = h.stopped ∙ g.stopped;
      journal = (g.journal.0 ++ h.journal.0, sym (append_assoc s.journal.items g.journal.0 h.journal.0) ∙ (ap (λ (ys : List Entry). ys ++ h.journal.0) g.journal.1 ∙ h.journal.1));
      ended = λ q e. h.ended q (g.ended q e);
    }

-- what a call with a flag came to
pub ok_either : {E P Q R : Type 0} (res : Result Bool E) → IfOk res (λ b. b ≡ true → P) → IfOk res (λ b. b ≡ false → Q) → (P → R) → (Q → R) → OnOk res R
ok_either (Ok true) p q f g = f (p refl)
ok_either (Ok false) p q f g = g (q refl)
ok_either (Err e) p q f g = tt

pub ok_does : {A E R : Type 0} {P : A → Type 0} (res : Result A E) → IfOk res P → ((x : A) → P x → R) → OnOk res R
ok_does (Ok x) p f = f x p
ok_does (Err e) p f = tt

-- ---- less is left

delivered_progress : (l : PlanLane) (s t : Lane) (q : ℕ) → DeliversNext l s t q → t.progress ≡ with_given s.progress q
delivered_progress l s t q (brought.Packet a, is, (v, n, dropped, adds)) = adds.progress
delivered_progress l s t q (brought.Report r j ntp_ns rtp, is, (sync, adds)) = adds.progress

controlled_progress : (l : PlanLane) (s t : Lane) → ControlsNext l s t → t.progress ≡ with_control s.progress
controlled_progress l s t (control.Clock at, is, a) = a.progress
controlled_progress l s t (control.FlushStart, is, (count, a)) = a.progress
controlled_progress l s t (control.FlushStop, is, a) = a.progress
controlled_progress l s t (control.Latency ns, is, a) = a.progress

shorter : {A : Type 0} (xs : List A) (k : ℕ) (x : A) → slice_get xs k ≡ Some x → k < length xs
shorter [] k x e = absurd cc
shorter (y ∷ xs) zero x e = omega arith
shorter (y ∷ xs) (suc k) x e = let less = shorter xs k x e in omega (arith, less)

given_more : (g : Progress) (q : ℕ) → length g.given ≡ 8 → q < 8 → given_of (with_given g q) q ≡ given_of g q + 1
given_more g q long small = let same : (q == q) ≡ true = grind (arith, common_steps) in set_given g.given q q (omega (arith, long, small)) ∙ rw same refl

fewer_by : (l : PlanLane) (s t : Lane) (q : ℕ) → length s.progress.given ≡ 8 → CanTake l s q → DeliversNext l s t q → waiting l t.progress q < waiting l s.progress q
fewer_by l s t q long can d =
    let less = shorter (queue l q) (given_of s.progress q) d.0 d.1 in
    let more = given_more s.progress q long (can.session d.0 d.1) in
    rw (delivered_progress l s t q d) (omega (arith, less, more))

pub deliver_fewer : (p : Plan) (s t : Lane) (q : ℕ) → ∥ IsLane (lane_in p s) ∥₁ → IsKept p s → DeliversNext (lane_in p s) s t q → waiting (lane_in p s) t.progress q < waiting (lane_in p s) s.progress q
deliver_fewer p s t q right kept d = ∥∥₁_elim kept (hlevel props) (λ k. fewer_by (lane_in p s) s t q k.counts.given_long (can_take (lane_in p s) s q right) d)

pub control_fewer : (l : PlanLane) (s t : Lane) → ControlsNext l s t → pending l t.progress < pending l s.progress
control_fewer l s t d = let less = shorter l.events s.progress.controls d.0 d.1 in rw (controlled_progress l s t d) (omega (arith, less))

-- ---- turns

quiet_history : (p : Plan) (s t : Lane) (r : Turn) → Rests s t r → history p t ≡ history p s
quiet_history p s t r a = rw (a.number, a.journal) refl

takes_after : (p : Plan) (s t : Lane) (r : Turn) → TakesTurn s t r → history p t ≡ turned_on r (history p s)
takes_after p s t (reply.Packet n pts x) a = history_added p s t (Packet n pts x) a.number a.journal
takes_after p s t (reply.Lost n count pts duration) a = history_added p s t (Lost n count pts duration) a.number a.journal
takes_after p s t (reply.Request n i) a = history_added p s t (Request n i) a.number a.journal
takes_after p s t reply.End a = history_added p s t End a.number a.journal
takes_after p s t (reply.Idle w) a = quiet_history p s t _ a
takes_after p s t reply.Flushing a = quiet_history p s t _ a

turn_after : (p : Plan) (s t : Lane) (n : Next) → Knows p s → TurnDoes s t n → history p t ≡ after_turn p s
turn_after p s t n k (inl (off, is, e)) = rw (off, e.number, e.journal) refl
turn_after p s t n k (inr (on, (r, is, a))) = rw (on, ← reply_is p s t r k a) (takes_after p s t r a)

-- the laws of the list machine that a lane's last turns stand on
pub record Laws : Type 0 where
  pub told : (s : Settings) (h : History) → Run s h → all_ended s h ≡ true → end_told h ≡ false → turn s h ≢ reply.Idle None
  pub awake : (s : Settings) (h : History) (wake : ℕ) → Run s h → turn s h ≡ reply.Idle (Some wake) → is_quiet (turn s (call.Clock wake ∷ h)) ≡ false
  pub falls : (s : Settings) (h : History) → is_quiet (turn s h) ≡ false → left s (call.Turned (turn s h) ∷ h) < left s h
  pub stays : (s : Settings) (h : History) (t : ℕ) → left s (call.Clock t ∷ h) ≡ left s h

same_lane : (p : Plan) (s t : Lane) → t.number ≡ s.number → lane_in p t ≡ lane_in p s
same_lane p s t e = ap (lane_of p) e

again : (laws : Laws) (p : Plan) (s t : Lane) (r : Turn) → Grows s t → IsReady p s → r ≡ turn_of p s → is_quiet r ≡ false → is_end r ≡ false → history p t ≡ call.Turned r ∷ history p s → GoesOn p s t
again laws p s t r g ready is loud no_end h =
    record {
      ready = record { on = g.stopped ∙ ready.on; ended = rw (h, same_lane p s t g.number) ready.ended; calm = rw h ready.calm; untold = rw (h, no_end) ready.untold };
      fewer = rw (h, same_lane p s t g.number) (subst (λ (x : Turn). is_quiet x ≡ false → left (lane_in p s).settings (call.Turned x ∷ history p s) < left (lane_in p s).settings (history p s)) (sym is) (laws.falls (lane_in p s).settings (history p s)) loud);
    }

sleeps : (p : Plan) (s t : Lane) (w : ℕ) → Grows s t → IsReady p s → reply.Idle (Some w) ≡ turn_of p s → history p t ≡ history p s → Sleeps p s t w
sleeps p s t w g ready is h =
    record {
      ready = record { on = g.stopped ∙ ready.on; ended = rw (h, same_lane p s t g.number) ready.ended; calm = rw h ready.calm; untold = rw h ready.untold };
      wake = rw (h, same_lane p s t g.number) (sym is);
      was = ap is_quiet (sym is);
      same = rw (h, same_lane p s t g.number) refl;
    }

comes_by : (laws : Laws) (p : Plan) (s t : Lane) (n : Next) (r : Turn) → Run (lane_in p s).settings (history p s) → Grows s t → IsReady p s → r ≡ turn_of p s → n ≡ next_after (is_end r || false) r
    → history p t ≡ turned_on r (history p s) → Comes p s t n
comes_by laws p s t n (reply.Packet m pts x) run g ready is e h = subst (Comes p s t) (sym e) (again laws p s t _ g ready is refl refl h)
comes_by laws p s t n (reply.Lost m count pts duration) run g ready is e h = subst (Comes p s t) (sym e) (again laws p s t _ g ready is refl refl h)
comes_by laws p s t n (reply.Request m i) run g ready is e h = subst (Comes p s t) (sym e) (again laws p s t _ g ready is refl refl h)
comes_by laws p s t n reply.End run g ready is e h = subst (Comes p s t) (sym e) (ap end_told h)
comes_by laws p s t n (reply.Idle None) run g ready is e h = absurd (laws.told (lane_in p s).settings (history p s) run ready.ended ready.untold (sym is))
comes_by laws p s t n (reply.Idle (Some w)) run g ready is e h = subst (Comes p s t) (sym e) (sleeps p s t w g ready is h)
comes_by laws p s t n reply.Flushing run g ready is e h = absurd (open_turn (lane_in p s).settings (history p s) ready.calm (sym is))

pub comes : (laws : Laws) (p : Plan) (s t : Lane) (n : Next) → Knows p s → TurnDoes s t n → n ≡ answer p s → IsReady p s → Comes p s t n
comes laws p s t n k d e ready =
    comes_by laws p s t n (turn_of p s) (run_of p s k) (turn_grows s t n d) ready refl
    (subst (λ (b : Bool). n ≡ next_after (is_end (turn_of p s) || b) (turn_of p s)) ready.untold (subst (λ (b : Bool). n ≡ (if b then Stopped else next_after (is_over p s) (turn_of p s))) ready.on e))
    (subst (λ (b : Bool). history p t ≡ (if b then history p s else turned_on (turn_of p s) (history p s))) ready.on (turn_after p s t n k d))

idle_of : (told : Bool) (r : Turn) (w : ℕ) → next_after told r ≡ Wait (Some w) → r ≡ reply.Idle (Some w)
idle_of true r w e = absurd cc
idle_of false (reply.Packet n pts x) w e = absurd cc
idle_of false (reply.Lost n count pts duration) w e = absurd cc
idle_of false (reply.Request n i) w e = absurd cc
idle_of false reply.End w e = absurd cc
idle_of false (reply.Idle o) w e = let same : o ≡ Some w = cc in ap reply.Idle same
idle_of false reply.Flushing w e = absurd cc

-- a turn that tells a wake leaves it
turn_waits : (p : Plan) (s t : Lane) (n : Next) → Knows p s → TurnDoes s t n → (w : ℕ) → n ≡ Wait (Some w) → turn_of p t ≡ reply.Idle (Some w)
turn_waits p s t n k (inl (off, is, e)) w f = absurd cc
turn_waits p s t n k (inr (on, (r, is, a))) w f =
    let idle = idle_of t.progress.told r w (sym is ∙ f) in
    let rests : Rests s t (reply.Idle (Some w)) = subst (TakesTurn s t) idle a in
    rw (quiet_history p s t _ rests, same_lane p s t rests.number) (sym (reply_is p s t r k a) ∙ idle)

pub waits_state : (p : Plan) (s t : Lane) (n : Next) → IsKept p s → TurnDoes s t n → (w : ℕ) → n ≡ Wait (Some w) → turn_of p t ≡ reply.Idle (Some w)
waits_state p s t n kept d w e = ∥∥₁_elim kept (hlevel props) (λ k. turn_waits p s t n k d w e)

-- ---- steps of the clock

pub wakes : (laws : Laws) (p : Plan) (s u : Lane) (t : ℕ) → Knows p s → Adds s u (Clock 9 t) (call.Clock t) s.progress → turn_of p s ≡ reply.Idle (Some t) → Wakes p s u
wakes laws p s u t k a e =
    let h : history p u ≡ call.Clock t ∷ history p s = history_added p s u (Clock 9 t) a.number a.journal in
    let l = same_lane p s u a.number in
    record {
      ready = λ ready. record { on = a.stopped ∙ ready.on; ended = rw (h, l) ready.ended; calm = rw h ready.calm; untold = rw h ready.untold };
      same = rw (h, l) (laws.stays (lane_in p s).settings (history p s) t);
      awake = rw (h, l) (laws.awake (lane_in p s).settings (history p s) t (run_of p s k) e);
    }

-- ---- pushers that ended

was_ended : (b : Bool) → false ≡ (not b && true) → b ≡ true
was_ended true e = refl
was_ended false e = clash (sym e)

-- a pusher of the lane that has nothing left ended, whatever the call answered
pub ended_then : (p : Plan) (s t : Lane) (q : ℕ) → (lane_in p s).settings.pushers < 512 → IsKept p s
    → (b : Bool) → b ≡ can_end (lane_in p s) s.progress q → (b ≡ true → EndsIt s t q) → (b ≡ false → IsSame s t)
    → is_pusher (lane_in p s).settings.pushers q ≡ true → left_for (lane_in p s) s.progress q ≡ false → ended_of t.progress q ≡ true
ended_then p s t q few kept true e does none is left =
    let small = pusher_small (lane_in p s).settings.pushers q few is in
    let here : (q == q) ≡ true = grind (arith, common_steps) in
    ∥∥₁_elim kept (hlevel props) (λ k. ap (λ (g : Progress). ended_of g q) (does refl).progress ∙ (set_ended s.progress.ended q q (omega (arith, k.counts.ended_long, small)) ∙ rw here refl))
ended_then p s t q few kept false e does none is left =
    let small = pusher_small (lane_in p s).settings.pushers q few is in
    let less : nat_lt q 9 ≡ true = grind (arith, common_steps) in
    let goes : false ≡ (not (ended_of s.progress q) && true) = subst (λ (b : Bool). false ≡ (not (ended_of s.progress q) && not b)) left
    (subst (λ (b : Bool). false ≡ (b && (not (ended_of s.progress q) && not (left_for (lane_in p s) s.progress q)))) is
    (subst (λ (b : Bool). false ≡ (b && (is_pusher (lane_in p s).settings.pushers q && (not (ended_of s.progress q) && not (left_for (lane_in p s) s.progress q))))) less e)) in
    ap (λ (g : Progress). ended_of g q) (none refl).progress ∙ was_ended (ended_of s.progress q) goes

right_at : (ls : List PlanLane) (n : ℕ) → n < length ls → AreRight ls → IsLane (unwrap_or (slice_get ls n) no_lane)
right_at [] n less r = absurd (omega (arith, less))
right_at (l ∷ ls) zero less r = r.0
right_at (l ∷ ls) (suc n) less r = right_at ls n (omega (arith, less)) r.1

pub right_of : (p : Plan) (n : ℕ) → n < length p.lanes → ∥ IsLane (lane_of p n) ∥₁
right_of p n less = ∥∥₁_map p.right (λ r. right_at p.lanes n less r)

ready_by : (p : Plan) (s : Lane) → IsLane (lane_in p s) → Knows p s → HaveEnded (lane_in p s) s → s.stopped ≡ false → s.progress.told ≡ false → IsReady p s
ready_by p s right k have on untold =
    let each = λ (q : ℕ) (is : is_pusher (lane_in p s).settings.pushers q ≡ true). sym (k.counts.ended_are q) ∙ have q is in
    record {
      on = on;
      ended = all_each (lane_in p s).settings (history p s) each;
      calm = no_flush (lane_in p s) (newest s) right k.in_order (each 8 right.control);
      untold = sym k.counts.told_is ∙ untold;
    }

pub make_ready : (p : Plan) (s : Lane) → s.number < length p.lanes → IsKept p s → HaveEnded (lane_in p s) s → s.stopped ≡ false → s.progress.told ≡ false → IsReady p s
make_ready p s named kept have on untold =
    ∥∥₁_elim (right_of p s.number named) (hlevel props) (λ r. ∥∥₁_elim kept (hlevel props) (λ k. ready_by p s r k have on untold))

pub told_state : (p : Plan) (s : Lane) → IsKept p s → s.progress.told ≡ true → end_told (history p s) ≡ true
told_state p s kept e = ∥∥₁_elim kept (hlevel props) (λ k. sym k.counts.told_is ∙ e)

pub whole_state : (law : RestsAfter) (p p' : Plan) (s : Lane) (n : ℕ) → p ≡ p' → s.number < length p'.lanes → IsKept p' s → end_told (history p' s) ≡ true → s.number ≡ n
    → IsWhole (lane_of p n) s.journal.items
whole_state law p p' s n same named kept t is =
    subst (λ (x : Plan). IsWhole (lane_of x n) s.journal.items) (sym same)
    (subst (λ (x : ℕ). IsWhole (lane_of p' x) s.journal.items) is
    (∥∥₁_elim (right_of p' s.number named) (hlevel props) (λ r. ∥∥₁_map kept (λ k. (
      record { run = run_of p' s k; in_order = k.in_order },
      whole law (lane_in p' s) (newest s) r (record { run = run_of p' s k; in_order = k.in_order }) t,
    )))))

-- ---- the same, under the plan that a state's type names

pub fewer_state : (p p' : Plan) (s t : Lane) (q : ℕ) (l : PlanLane) → LooksUp p p' s l → t.number ≡ s.number → DeliversNext l s t q
    → waiting (lane_in p t) t.progress q < waiting (lane_in p s) s.progress q
fewer_state p p' s t q l u number d =
    subst (λ (x : PlanLane). waiting x t.progress q < waiting (lane_in p s) s.progress q) (sym (same_lane p s t number))
    (deliver_fewer p s t q (right_here p p' s l u) (kept_here p p' s l u) (subst (λ (x : PlanLane). DeliversNext x s t q) (sym u.is) d))

pub ok_three : {E R : Type 0} {P Q S : Bool → Type 0} (res : Result Bool E) → IfOk res P → IfOk res Q → IfOk res S → ((b : Bool) → P b → Q b → S b → R) → OnOk res R
ok_three (Ok b) p q s f = f b p q s
ok_three (Err e) p q s f = tt

first_of_and : (a b : Bool) → true ≡ (a && b) → a ≡ true
first_of_and true b e = refl
first_of_and false b e = clash e

small_by : (q : ℕ) → nat_lt q 9 ≡ true → q < 9
small_by q e = grind (arith, common_steps)

pub end_grows_state : (p : Plan) (s t : Lane) (q : ℕ) (l : PlanLane) → IsKept p s
    → (b : Bool) → b ≡ can_end l s.progress q → (b ≡ true → EndsIt s t q) → (b ≡ false → IsSame s t) → Grows s t
end_grows_state p s t q l kept true e does none = end_grows p s t q (small_by q (first_of_and (nat_lt q 9) _ e)) kept (does refl)
end_grows_state p s t q l kept false e does none = same_grows s t (none refl)

pub over_state : (p p' : Plan) (s t : Lane) (q : ℕ) (l : PlanLane) → LooksUp p p' s l
    → (b : Bool) → b ≡ can_end l s.progress q → (b ≡ true → EndsIt s t q) → (b ≡ false → IsSame s t)
    → is_pusher (lane_in p s).settings.pushers q ≡ true → left_for (lane_in p s) s.progress q ≡ false → ended_of t.progress q ≡ true
over_state p p' s t q l u b e does none =
    ended_then p s t q (few_pushers (lane_in p s) (right_here p p' s l u)) (kept_here p p' s l u) b (subst (λ (x : PlanLane). b ≡ can_end x s.progress q) (sym u.is) e) does none

comes_prop : (p : Plan) (s t : Lane) (n : Next) → IsProp (Comes p s t n)
comes_prop p s t Again = hlevel props
comes_prop p s t (Wait None) = hlevel props
comes_prop p s t (Wait (Some w)) = hlevel props
comes_prop p s t Flushing = hlevel props
comes_prop p s t Ended = hlevel props
comes_prop p s t Stopped = hlevel props

pub comes_state : (laws : Laws) (p : Plan) (s t : Lane) (n : Next) → IsKept p s → TurnDoes s t n → IsReady p s → Comes p s t n
comes_state laws p s t n kept d ready = ∥∥₁_elim kept (comes_prop p s t n) (λ k. comes laws p s t n k d (turn_value p s t n k d) ready)

pub wakes_state : (laws : Laws) (p : Plan) (s u : Lane) (t : ℕ) → IsKept p s → Adds s u (Clock 9 t) (call.Clock t) s.progress → turn_of p s ≡ reply.Idle (Some t) → Wakes p s u
wakes_state laws p s u t kept a e = ∥∥₁_elim kept (hlevel props) (λ k. wakes laws p s u t k a e)

-- the sessions below 8 and the control are all pushers
pub all_have : (p : Plan) (s : Lane) → s.number < length p.lanes → (is_pusher (lane_in p s).settings.pushers 8 ≡ true → ended_of s.progress 8 ≡ true)
    → ((q : ℕ) → q < 8 → is_pusher (lane_in p s).settings.pushers q ≡ true → ended_of s.progress q ≡ true) → HaveEnded (lane_in p s) s
all_have p s named control sessions q is =
    let small = pusher_small (lane_in p s).settings.pushers q (few_pushers (lane_in p s) (right_of p s.number named)) is in
    elim (q == 8) as (λ b. (q == 8) ≡ b → ended_of s.progress q ≡ true) [
      | true ↦ λ e. let same : q ≡ 8 = grind (arith, common_steps) in subst (λ (x : ℕ). ended_of s.progress x ≡ true) (sym same) (control (subst (λ (x : ℕ). is_pusher (lane_in p s).settings.pushers x ≡ true) same is))
      | false ↦ λ e. let less : q < 8 = grind (arith, common_steps, small) in sessions q less is
    ] refl

-- what is known of the pushers after one session more ended
pub one_more : (p : Plan) (s t u : Lane) (i : ℕ) → Grows s t → Grows t u
    → (is_pusher (lane_in p s).settings.pushers 8 ≡ true → ended_of t.progress 8 ≡ true)
    → ((q : ℕ) → q < i → is_pusher (lane_in p s).settings.pushers q ≡ true → ended_of t.progress q ≡ true)
    → (is_pusher (lane_in p t).settings.pushers i ≡ true → ended_of u.progress i ≡ true)
    → Grows s u × (is_pusher (lane_in p s).settings.pushers 8 ≡ true → ended_of u.progress 8 ≡ true)
    × ((q : ℕ) → q < i + 1 → is_pusher (lane_in p s).settings.pushers q ≡ true → ended_of u.progress q ≡ true)
one_more p s t u i g h control sessions this =
    let here = subst (λ (x : PlanLane). is_pusher x.settings.pushers i ≡ true → ended_of u.progress i ≡ true) (same_lane p s t g.number) this in (
      grows_then s t u g h,
      (λ is. h.ended 8 (control is)),
      (λ q less is. elim (q == i) as (λ b. (q == i) ≡ b → ended_of u.progress q ≡ true) [
        | true ↦ λ e. let same : q ≡ i = grind (arith, common_steps) in subst (λ (x : ℕ). ended_of u.progress x ≡ true) (sym same) (here (subst (λ (x : ℕ). is_pusher (lane_in p s).settings.pushers x ≡ true) same is))
        | false ↦ λ e. let below : q < i = grind (arith, common_steps, less) in h.ended q (sessions q below is)
      ] refl),
    )

pub all_have_state : (p p' : Plan) (s t : Lane) (n : ℕ) → p ≡ p' → Grows s t → t.number < length p'.lanes → 8 ≤ n
    → (is_pusher (lane_in p s).settings.pushers 8 ≡ true → ended_of t.progress 8 ≡ true)
    → ((q : ℕ) → q < n → is_pusher (lane_in p s).settings.pushers q ≡ true → ended_of t.progress q ≡ true)
    → HaveEnded (lane_in p' t) t
all_have_state p p' s t n same g named le control sessions =
    let l : lane_in p s ≡ lane_in p' t = sym (same_lane p s t g.number) ∙ ap (λ (x : Plan). lane_in x t) same in
    all_have p' t named
    (subst (λ (x : PlanLane). is_pusher x.settings.pushers 8 ≡ true → ended_of t.progress 8 ≡ true) l control)
    (λ q less. subst (λ (x : PlanLane). is_pusher x.settings.pushers q ≡ true → ended_of t.progress q ≡ true) l (sessions q (omega (arith, less, le))))
