-- The timers that don't change with a packet that leaves a gap above the greatest number.
use Rattle.std.proofs.Common.{ℕ, ◌≡◌, ◌≢◌, ◌+◌, ◌-◌, ◌≤◌, ◌<◌, min, Bool, true, false}
use Rattle.std.proofs.Common.{refl, sym, ap, subst, ◌∙◌, List, [], ◌∷◌, ◌++◌, Option, None, Some, arith}
use Rattle.std.specs.Prelude.{nat_lt, nat_le, ◌==◌, IsSome, is_some, unwrap_or, if◌then◌else◌}
use Rattle.std.proofs.lemmas.Grind.{common_steps}
use Rattle.std.specs.FinMap as map
use Rattle.jitter_timers.specs.Timers.{Times}
use Rattle.jitter_model.specs.declared.Arrival.{Arrival}
use Rattle.jitter_model.specs.declared.Mark.{Mark}
use Rattle.jitter_model.specs.declared.Pushed.{Pushed}
use Rattle.jitter_model.specs.declared.Settings.{Settings}
use Rattle.jitter_model.specs.declared.Verdict.{Verdict}
use Rattle.jitter_model.specs.declared.Verdict.TheVariants.{Accepted}
use Rattle.jitter_model.specs.Accepted.{is_original}
use Rattle.jitter_model.specs.Requests.{lesser, later, Wanted}
use Rattle.jitter_model.specs.Times.{is_above, expected}
use Rattle.jitter_model.specs.Turns.{low, wanted}
use Rattle.jitter_model.specs.Verdicts.{told_number, opened_number}
use Rattle.jitter_core.specs.declared.peaks.Peak.{Peak}
use Rattle.jitter_core.specs.declared.served.Service.{Service}
use Rattle.jitter_core.specs.declared.state.Progress.{Progress}
use Rattle.jitter_core.specs.declared.state.Span.{Span}
use Rattle.jitter_core.specs.declared.state.State.{State}
use Rattle.jitter_core.specs.Marks.{before_another, is_next_mark}
use Rattle.jitter_core.specs.Peaks.{above_next, stamp_from}
use Rattle.jitter_core.specs.Pushing.{PushStep, SegmentAfter, leaves_gap, stale_after, pushed_progress}
use Rattle.jitter_core.specs.Requesting.{first_due_by}
use Rattle.jitter_core.specs.Served.{served_in}
use Rattle.jitter_core.specs.Steps.{IsBounded, IsPast, Accepts, run_of, state_number}
use Rattle.jitter_core.specs.Scheduling.{pending_of, pending, IsTimer, AreTimers, AreTimersBelow}
use Rattle.jitter_core.specs.Turning.{state_sight}
use Rattle.jitter_core.proofs.Asking.{some_if, value_if}
use Rattle.jitter_core.proofs.Carrying.{Keeps, carry, below_none}
use Rattle.jitter_core.proofs.Firsts.{stamp_next, stamp_last, or_known}
use Rattle.jitter_core.proofs.Following.{wanted_below, expected_same, known, past_low, low_known, held_other}
use Rattle.jitter_core.proofs.Retiming.{timer_at, low_by}
use Rattle.jitter_core.proofs.Timers.{InRange, in_range, pending_held}

-- ---- the first request for a missing number

stamp_low : (o : Option ℕ) (ps : List Peak) (p : Peak) (m : ℕ) → IsPast o m
    → is_some (stamp_from ps m) ≡ true → stamp_from (above_next o (ps ++ p ∷ [])) m ≡ stamp_from ps m
stamp_low o ps p m past reach =
    stamp_next o m (ps ++ p ∷ []) past ∙ stamp_last m ps p
    ∙ or_known (stamp_from ps m) (if nat_le m p.number then Some p.stamp else None) reach

first_low : (s : Settings) (o : Option ℕ) (ps : List Peak) (p : Peak) (t q : ℕ)
    → q + s.reorder < t → ((m : ℕ) → q < m → IsPast o m)
    → ((m : ℕ) → q < m → m ≤ t → is_some (stamp_from ps m) ≡ true)
    → first_due_by s (above_next o (ps ++ p ∷ [])) q ≡ first_due_by s ps q
first_low s o ps p t q lt past reach =
    ap (λ (x : Option ℕ). lesser (later s.rtx_delay x)
    (if s.reorder == 0 then None else stamp_from (above_next o (ps ++ p ∷ [])) (q + s.reorder)))
    (stamp_low o ps p (q + 1) (past (q + 1) (omega arith)) (reach (q + 1) (omega arith) (omega arith)))
    ∙ ap (λ (x : Option ℕ). lesser (later s.rtx_delay (stamp_from ps (q + 1))) x)
    (elim (s.reorder == 0) as (λ b. (s.reorder == 0) ≡ b → (if b then None else stamp_from (above_next o (ps ++ p ∷ [])) (q + s.reorder)) ≡ (if b then None else stamp_from ps (q + s.reorder))) [
      | true ↦ λ _. refl
      | false ↦ λ e. let some : s.reorder ≢ 0 = grind (arith, common_steps) in
          let more : q < q + s.reorder = omega arith in
          stamp_low o ps p (q + s.reorder) (past (q + s.reorder) more)
          (reach (q + s.reorder) more (omega arith))
    ] refl)

-- ---- a packet that leaves a gap above the greatest number, which is the latest height, was accepted

record IsLeap (old new : State) (a : Arrival) (n : ℕ) : Type 0 where
  settings : new.settings ≡ old.settings
  progress : new.progress ≡ pushed_progress old.progress a.stamp
  accepts : Accepts old new a n
  original : is_original a.origin ≡ true
  some : is_some old.span.top ≡ true
  above : unwrap_or old.span.top 0 + 1 < n
  latest : is_next_mark old.heights (unwrap_or old.span.top 0 + 1) ≡ true

above_top : (t : Option ℕ) (n : ℕ) → unwrap_or t 0 + 1 < n → is_above t n ≡ true
above_top None n lt = refl
above_top (Some x) n lt = grind (arith, common_steps)

leap_top : (old new : State) (a : Arrival) (n : ℕ) → IsLeap old new a n
    → unwrap_or new.span.top 0 ≡ n
leap_top old new a n x =
    ap (λ (y : Span). unwrap_or y.top 0) x.accepts.span ∙ omega (arith, x.above)

least_min : (t l : Option ℕ) (n : ℕ) → is_some l ≡ is_some t → is_some t ≡ true
    → unwrap_or l 0 ≤ unwrap_or t 0 → unwrap_or t 0 + 1 < n → min n (unwrap_or l n) ≡ unwrap_or l 0
least_min t None n e some le lt = cc
least_min t (Some l) n e some le lt = omega arith

leap_low : (old new : State) (a : Arrival) (n : ℕ) → IsBounded old → IsLeap old new a n
    → low (state_sight new) new.span.next ≡ low (state_sight old) old.span.next
leap_low old new a n b x =
    low_by new old new.span.next old.span.next (ap (λ (y : Span). y.next) x.accepts.span)
    (ap (λ (y : Span). unwrap_or y.least 0) x.accepts.span
    ∙ least_min old.span.top old.span.least n b.least_known x.some b.least_top x.above)

leap_peaks : (old new : State) (a : Arrival) (n : ℕ) → IsLeap old new a n
    → new.peaks ≡ above_next old.span.next (old.peaks ++ record { number = n; stamp = a.stamp } ∷ [])
leap_peaks old new a n x = x.accepts.peaks ∙ rw (above_top old.span.top n x.above) refl

leap_heights : (old new : State) (a : Arrival) (n : ℕ) (x : IsLeap old new a n)
    → new.heights ≡ record { number = n; pts = x.accepts.pts } ∷ before_another old.span.next old.heights
leap_heights old new a n x =
    x.accepts.heights ∙ rw (x.original, above_top old.span.top n x.above) refl

leap_wanted : (old new : State) (a : Arrival) (n q : ℕ) → IsBounded old → IsLeap old new a n
    → low (state_sight old) old.span.next ≤ q → q + old.settings.reorder < unwrap_or old.span.top 0
    → wanted old.settings (state_sight new) q ≡ wanted old.settings (state_sight old) q
leap_wanted old new a n q b x le lt =
    wanted_below old.settings (state_sight old) (state_sight new) q (omega (arith, lt))
    (omega (arith, lt, leap_top old new a n x, x.above))
    (held_other old new a n q x.accepts (omega (arith, lt, x.above)))
    (ap (λ (s : Settings). first_due_by s new.peaks q) x.settings
    ∙ ap (λ (ps : List Peak). first_due_by old.settings ps q) (leap_peaks old new a n x)
    ∙ first_low old.settings old.span.next old.peaks (record { number = n; stamp = a.stamp })
    (unwrap_or old.span.top 0) q lt (λ m more. past_low old old.span.next q m le more)
    (λ m more to. b.reach m (past_low old old.span.next q m le more) x.some to))
    (ap (λ (ms : List Mark). expected ms q) (leap_heights old new a n x)
    ∙ expected_same old.span.next (record { number = n; pts = x.accepts.pts }) old.heights
    (unwrap_or old.span.top 0) q x.latest (omega (arith, lt)) (omega (arith, x.above))
    (λ k e. low_known old old.span.next q k le e))
    (ap (λ (p : Progress). p.latency) x.progress)

leap_keeps : (old new : State) (a : Arrival) (n q : ℕ) → IsBounded old → IsLeap old new a n
    → low (state_sight old) old.span.next ≤ q → q + old.settings.reorder < unwrap_or old.span.top 0
    → Keeps old.settings (state_sight old) (state_sight new) q
leap_keeps old new a n q b x le lt =
    let same = leap_wanted old new a n q b x le lt in
    record {
      wanted_is = same;
      pending_is = ap (λ (y : Option Wanted). pending_of old.settings (served_in new.served q) y) same
          ∙ ap (λ (xs : List Service). pending_of old.settings (served_in xs q)
          (wanted old.settings (state_sight old) q)) x.accepts.served;
    }

leap_timer : (old new : State) (a : Arrival) (n q : ℕ) (m : Times) → IsBounded old
    → IsLeap old new a n → AreTimers old m → q + old.settings.reorder < unwrap_or old.span.top 0
    → IsTimer new.settings (state_sight new) (low (state_sight new) new.span.next) q (map.get m q)
leap_timer old new a n q m b x h lt =
    timer_at old new (low (state_sight old) old.span.next) q (map.get m q) x.settings
    (leap_low old new a n b x)
    (carry old.settings (state_sight old) (state_sight new) (low (state_sight old) old.span.next)
    (low (state_sight old) old.span.next) q (map.get m q) (h q) (omega arith)
    (λ le. leap_keeps old new a n q b x le lt)
    (rw x.progress (omega arith))
    (λ below. below_none old.settings (state_sight old) (low (state_sight old) old.span.next) q
    (map.get m q) (h q) below))

not_held : (s : State) (m : Times) (q : ℕ) → IsBounded s → AreTimers s m → IsSome (map.get m q)
    → is_some (map.get s.held q) ≡ false
not_held s m q b h e =
    elim (is_some (map.get s.held q)) as (λ c. is_some (map.get s.held q) ≡ c → c ≡ false) [
      | true ↦ λ there.
          let x : InRange s q = in_range s m q h e in
          let to = (b.held_to q there).1 in
          let none = pending_held s.settings (state_sight s) q to there in
          let some = x.pends in
          absurd cc
      | false ↦ λ _. refl
    ] refl

leap_below : (old new : State) (a : Arrival) (n : ℕ) (m : Times) → IsBounded old
    → IsLeap old new a n → old.settings.rtx ≡ true → AreTimers old m
    → AreTimersBelow new (unwrap_or old.span.top 0 - old.settings.reorder) m
leap_below old new a n m b x on h =
    record {
      requests = ap (λ (s : Settings). s.rtx) x.settings ∙ on;
      right = λ q lt. leap_timer old new a n q m b x h (omega (arith, lt));
      above = λ q e. let y : InRange old q = in_range old m q h e in
          omega (arith, leap_low old new a n b x, y.from);
      below = λ q e. let y : InRange old q = in_range old m q h e in
          omega (arith, leap_top old new a n x, x.above, y.to);
      missing = λ q e. let y : InRange old q = in_range old m q h e in
          held_other old new a n q x.accepts (omega (arith, x.above, y.to)) ∙ not_held old m q b h e;
    }

-- ---- a push

leap : (old new : State) (a : Arrival) (p : Pushed) → PushStep old new a p → p.verdict ≡ Accepted
    → leaves_gap old a ≡ true → IsLeap old new a p.number
leap old new a p r v e =
    let number : p.number ≡ state_number old a = r.number
    ∙ ap (λ (x : Verdict). told_number x (state_number old a) (opened_number (run_of old) a)) v in
    let accepts : Accepts old new a (state_number old a) =
    subst (λ (x : Verdict). SegmentAfter old a x new) v r.segment in
    record {
      settings = r.settings;
      progress = r.progress;
      accepts = subst (λ (n : ℕ). Accepts old new a n) (sym number) accepts;
      original = grind (arith, common_steps);
      some = grind (arith, common_steps);
      above = (let lt : unwrap_or old.span.top 0 + 1 < state_number old a = grind (arith, common_steps)
          in omega (arith, number, lt));
      latest = grind (arith, common_steps);
    }

-- a packet that leaves a gap leaves the timers below a number
pub gap_below : (old new : State) (a : Arrival) (p : Pushed) (m : Times) (gap : Option ℕ) (from : ℕ)
    → IsBounded old → PushStep old new a p → p.verdict ≡ Accepted → gap ≡ stale_after old a
    → gap ≡ Some from → old.settings.rtx ≡ true → AreTimers old m → AreTimersBelow new from m
gap_below old new a p m gap from b r v is e on h =
    let both : (if leaves_gap old a then Some (unwrap_or old.span.top 0 - old.settings.reorder) else None)
    ≡ Some from = sym is ∙ e in
    let leaves = some_if (leaves_gap old a) (unwrap_or old.span.top 0 - old.settings.reorder) from both in
    let value = value_if (leaves_gap old a) (unwrap_or old.span.top 0 - old.settings.reorder) from both in
    subst (λ (n : ℕ). AreTimersBelow new n m) value
    (leap_below old new a p.number m b (leap old new a p r v leaves) on h)
