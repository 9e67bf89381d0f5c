-- The timer that changes with a packet between the lowest and the greatest number.
use Rattle.std.proofs.Common.{ℕ, ◌≡◌, ◌≢◌, ◌+◌, ◌≤◌, ◌<◌, ◌&&◌, min, max}
use Rattle.std.proofs.Common.{Bool, true, false, refl, sym, ap, subst, ◌∙◌}
use Rattle.std.proofs.Common.{List, Option, None, Some, arith}
use Rattle.std.specs.Prelude.{nat_lt, nat_le, is_some, unwrap_or, if◌then◌else◌}
use Rattle.std.proofs.lemmas.Grind.{common_steps}
use Rattle.std.specs.FinMap as map
use Rattle.jitter_timers.specs.Timers.{Timers, Times}
use Rattle.jitter_model.specs.declared.Arrival.{Arrival}
use Rattle.jitter_model.specs.declared.Mark.{Mark}
use Rattle.jitter_model.specs.declared.Pushed.{Pushed}
use Rattle.jitter_model.specs.declared.Settings.{Settings}
use Rattle.jitter_model.specs.declared.Verdict.{Verdict}
use Rattle.jitter_model.specs.declared.Verdict.TheVariants.{Accepted}
use Rattle.jitter_model.specs.Accepted.{is_original}
use Rattle.jitter_model.specs.Requests.{wanted_next}
use Rattle.jitter_model.specs.Times.{is_above, expected}
use Rattle.jitter_model.specs.Turns.{low}
use Rattle.jitter_model.specs.Verdicts.{told_number, opened_number}
use Rattle.jitter_core.specs.declared.peaks.Peak.{Peak}
use Rattle.jitter_core.specs.declared.state.Progress.{Progress}
use Rattle.jitter_core.specs.declared.state.Span.{Span}
use Rattle.jitter_core.specs.declared.state.State.{State}
use Rattle.jitter_core.specs.Marks.{with_mark}
use Rattle.jitter_core.specs.Pushing.{PushStep, SegmentAfter}
use Rattle.jitter_core.specs.Requesting.{first_due_by}
use Rattle.jitter_core.specs.Served.{served_in}
use Rattle.jitter_core.specs.Steps.{IsBounded, Accepts, run_of, state_number}
use Rattle.jitter_core.specs.Scheduling.{pending, with_timer, IsTimer, AreTimers, AreInRange}
use Rattle.jitter_core.specs.Scheduling.{fills, CanFill}
use Rattle.jitter_core.specs.Turning.{have_ended, state_sight}
use Rattle.jitter_core.proofs.Carrying.{Keeps, carry, below_none, set_timer}
use Rattle.jitter_core.proofs.Following.{held_other}
use Rattle.jitter_core.proofs.Retiming.{timer_at, wanted_by}
use Rattle.jitter_core.proofs.Timers.{InRange, in_range, few_timers, few_gaps}

-- its own timer set anew, the others right already
pub fill_right : (s : State) (x y : Timers) (number : ℕ) → CanFill s number x.times
    → y ≡ record {
      room = x.room;
      times = with_timer x.times number (pending s.settings (state_sight s) number);
      heap = y.heap;
    }
    → AreTimers s y.times
fill_right s x y number h e q =
    subst (λ (w : Timers). IsTimer s.settings (state_sight s) (low (state_sight s) s.span.next) q
    (map.get w.times q)) (sym e)
    (set_timer s.settings (state_sight s) (low (state_sight s) s.span.next) number q x.times h.from
    (λ own. h.others q own))

-- ---- what such a packet leaves

-- a packet below the greatest number, and above the lowest one where that isn't fixed, was accepted
record IsFilling (old new : State) (a : Arrival) (n : ℕ) : Type 0 where
  accepts : Accepts old new a n
  settings : new.settings ≡ old.settings
  latency : new.progress.latency ≡ old.progress.latency
  ended : new.progress.ended ≡ old.progress.ended
  time : old.progress.time ≤ new.progress.time
  below : n < unwrap_or old.span.top 0
  least : is_some new.span.next ≡ false → min n (unwrap_or old.span.least n) < n

not_above : (o : Option ℕ) (n : ℕ) → n < unwrap_or o 0 → is_above o n ≡ false
not_above None n lt = absurd (omega arith)
not_above (Some t) n lt = grind (arith, common_steps)

and_false : (b : Bool) → (b && false) ≡ false
and_false true = refl
and_false false = refl

heights_same : (old new : State) (a : Arrival) (n : ℕ) → IsFilling old new a n
    → new.heights ≡ old.heights
heights_same old new a n x =
    let no : (is_original a.origin && is_above old.span.top n) ≡ false =
    ap (λ (b : Bool). is_original a.origin && b) (not_above old.span.top n x.below)
    ∙ and_false (is_original a.origin)
    in
    x.accepts.heights
    ∙ ap (λ (b : Bool). with_mark old.span.next
    (if b then Some (record { number = n; pts = x.accepts.pts }) else None) old.heights) no

peaks_same : (old new : State) (a : Arrival) (n : ℕ) → IsFilling old new a n → new.peaks ≡ old.peaks
peaks_same old new a n x = x.accepts.peaks ∙ rw (not_above old.span.top n x.below) refl

top_same : (old new : State) (a : Arrival) (n : ℕ) → IsFilling old new a n
    → unwrap_or new.span.top 0 ≡ unwrap_or old.span.top 0
top_same old new a n x =
    let below = x.below in ap (λ (y : Span). unwrap_or y.top 0) x.accepts.span ∙ omega arith

least_same : (l : Option ℕ) (n : ℕ) → min n (unwrap_or l n) < n
    → min n (unwrap_or l n) ≡ unwrap_or l 0
least_same None n lt = absurd (omega arith)
least_same (Some l) n lt = omega arith

low_with : (old new : State) (o p : Option ℕ) → o ≡ p
    → (is_some o ≡ false → (state_sight new).least ≡ (state_sight old).least)
    → low (state_sight new) o ≡ low (state_sight old) p
low_with old new None None e l = l refl
low_with old new (Some x) (Some y) e l = cc
low_with old new None (Some y) e l = cc
low_with old new (Some x) None e l = cc

low_same : (old new : State) (a : Arrival) (n : ℕ) → IsFilling old new a n
    → low (state_sight new) new.span.next ≡ low (state_sight old) old.span.next
low_same old new a n x =
    low_with old new new.span.next old.span.next (ap (λ (y : Span). y.next) x.accepts.span)
    (λ unknown. ap (λ (y : Span). unwrap_or y.least 0) x.accepts.span
    ∙ least_same old.span.least n (x.least unknown))

fill_keeps : (old new : State) (a : Arrival) (n q : ℕ) → IsFilling old new a n → q ≢ n
    → Keeps old.settings (state_sight old) (state_sight new) q
fill_keeps old new a n q x other =
    wanted_by old.settings (state_sight old) (state_sight new) q
    (top_same old new a n x)
    (held_other old new a n q x.accepts other)
    (ap (λ (s : Settings). first_due_by s new.peaks q) x.settings
    ∙ ap (λ (ps : List Peak). first_due_by old.settings ps q) (peaks_same old new a n x))
    (ap (λ (ms : List Mark). expected ms q) (heights_same old new a n x))
    x.latency
    (ap (λ (s : Settings). have_ended s.pushers new.progress.ended) x.settings
    ∙ ap (have_ended old.settings.pushers) x.ended)
    (λ latency top. ap (wanted_next old.settings latency top) (heights_same old new a n x))
    (ap (λ xs. served_in xs q) x.accepts.served)

fill_other : (old new : State) (a : Arrival) (n q : ℕ) (m : Times) → IsFilling old new a n
    → AreTimers old m → q ≢ n
    → IsTimer new.settings (state_sight new) (low (state_sight new) new.span.next) q (map.get m q)
fill_other old new a n q m x h other =
    timer_at old new (low (state_sight old) old.span.next) q (map.get m q) x.settings
    (low_same old new a n x)
    (carry old.settings (state_sight old) (state_sight new) (low (state_sight old) old.span.next)
    (low (state_sight old) old.span.next) q (map.get m q) (h q) (omega arith)
    (λ _. fill_keeps old new a n q x other) x.time
    (λ lt. below_none old.settings (state_sight old) (low (state_sight old) old.span.next) q
    (map.get m q) (h q) lt))

-- ---- a push

filling : (old new : State) (a : Arrival) (p : Pushed) → PushStep old new a p
    → p.verdict ≡ Accepted → fills new p.number ≡ true → IsFilling old new a p.number
filling old new a p r v e =
    let number : p.number ≡ state_number old a = r.number
    ∙ ap (λ (x : Verdict). told_number x (state_number old a)
    (opened_number (run_of old) a)) v in
    let accepts : Accepts old new a p.number =
    subst (λ (n : ℕ). Accepts old new a n) (sym number)
    (subst (λ (x : Verdict). SegmentAfter old a x new) v r.segment) in
    let lt : p.number < unwrap_or new.span.top 0 = grind (arith, common_steps) in
    record {
      accepts = accepts;
      settings = r.settings;
      latency = ap (λ (y : Progress). y.latency) r.progress;
      ended = ap (λ (y : Progress). y.ended) r.progress;
      time = rw r.progress (omega arith);
      below = (let top = ap (λ (y : Span). unwrap_or y.top 0) accepts.span in omega arith);
      least = λ unknown.
          let least = ap (λ (y : Span). unwrap_or y.least 0) accepts.span in
          let at = low_unknown new new.span.next unknown in
          let less : low (state_sight new) new.span.next < p.number = grind (arith, common_steps) in
          omega arith;
    }
  where
    low_unknown : (s : State) (o : Option ℕ) → is_some o ≡ false
        → low (state_sight s) o ≡ unwrap_or s.span.least 0
    low_unknown s None e = refl
    low_unknown s (Some x) e = absurd cc

pub can_fill : (old new : State) (a : Arrival) (p : Pushed) (m : Times) → IsBounded old
    → PushStep old new a p → p.verdict ≡ Accepted → fills new p.number ≡ true → AreTimers old m
    → CanFill new p.number m
can_fill old new a p m b r v e h =
    let x = filling old new a p r v e in
    let low_is = low_same old new a p.number x in
    let top_is = top_same old new a p.number x in
    record {
      from = grind (arith, common_steps);
      to = (let lt = x.below in omega arith);
      few = omega (arith, few_timers old m b h, few_gaps old b);
      within = λ q e. let y : InRange old q = in_range old m q h e in
          (omega (arith, low_is, y.from), omega (arith, top_is, y.to));
      others = λ q other. fill_other old new a p.number q m x h other;
    }
