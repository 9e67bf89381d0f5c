-- The timers that change with a packet one above the greatest number.
use Rattle.std.proofs.Common.{ℕ, ◌≡◌, ◌≢◌, ◌+◌, ◌-◌, ◌≤◌, ◌<◌, Bool, true, false, refl, sym, ap, subst, ◌∙◌, List, [], ◌∷◌, ◌++◌, Option, None, Some, arith, min}
use Rattle.std.specs.Prelude.{nat_lt, nat_le, ◌==◌, IsSome, is_some, unwrap_or, if◌then◌else◌}
use Rattle.std.proofs.lemmas.Grind.{common_steps}
use Rattle.std.specs.FinMap as map
use Rattle.std.specs.Cmp.{nat_cmp_total, unsigned_tied}
use Rattle.std.specs.Ordering.{nat_cmp}
use Rattle.jitter_timers.specs.Timers.{Timers, Times, HasRoom}
use Rattle.jitter_model.specs.declared.Arrival.{Arrival}
use Rattle.jitter_model.specs.declared.Settings.{Settings}
use Rattle.jitter_model.specs.declared.Held.{Held}
use Rattle.jitter_model.specs.declared.Mark.{Mark}
use Rattle.jitter_model.specs.declared.Pushed.{Pushed}
use Rattle.jitter_model.specs.declared.Verdict.{Verdict}
use Rattle.jitter_model.specs.declared.Verdict.TheVariants.{Accepted}
use Rattle.jitter_model.specs.Accepted.{is_original}
use Rattle.jitter_model.specs.Requests.{lesser, later, or_else, Wanted}
use Rattle.jitter_model.specs.Times.{is_above, expected}
use Rattle.jitter_model.specs.Turns.{Sight, low, wanted}
use Rattle.jitter_model.specs.Verdicts.{is_late, told_number, opened_number}
use Rattle.jitter_core.specs.declared.peaks.Peak.{Peak}
use Rattle.jitter_core.specs.declared.served.Service.{Service}
use Rattle.jitter_core.specs.declared.state.Progress.{Progress}
use Rattle.jitter_core.specs.declared.state.Span.{Span}
use Rattle.jitter_core.specs.declared.state.State.{State}
use Rattle.jitter_core.specs.Marks.{before_another, is_next_mark}
use Rattle.jitter_core.specs.Peaks.{above_next, stamp_from}
use Rattle.jitter_core.specs.Pushing.{PushStep, SegmentAfter, follows_top, pushed_progress}
use Rattle.jitter_core.specs.Requesting.{first_due_by}
use Rattle.jitter_core.specs.Served.{served_in}
use Rattle.jitter_core.specs.Steps.{IsBounded, IsPast, Accepts, run_of, state_number}
use Rattle.jitter_core.specs.Scheduling.{pending_of, pending, with_timer, IsTimer, AreTimers, AreTimersBut, AreInRange}
use Rattle.jitter_core.specs.Turning.{state_sight}
use Rattle.jitter_core.proofs.Carrying.{Keeps, carry, below_none, get_with, set_timer}
use Rattle.jitter_core.proofs.Firsts.{stamp_next, stamp_last, or_known, or_none}
use Rattle.jitter_core.proofs.Retiming.{timer_at, low_by}
use Rattle.jitter_core.proofs.Timers.{InRange, in_range, low_top, has_room, len_insert, len_remove, wanted_above, wanted_top, wanted_there}

-- timers with room for one more
pub record IsReady (s : State) (x : Timers) (most : ℕ) : Type 0 where
  pub room : x.room ≡ 16384
  pub few : map.len x.times ≤ most
  pub within : AreInRange s x.times

pub ready_room : (s : State) (x : Timers) (n most : ℕ) → IsBounded s → IsReady s x most → low (state_sight s) s.span.next ≤ n → n ≤ unwrap_or s.span.top 0 + 1 → HasRoom x n
ready_room s x n most b r from to = has_room s x n b r.room r.within from to

len_with : (m : Times) (n : ℕ) (p : Option ℕ) → map.len (with_timer m n p) ≤ map.len m + 1
len_with m n None = omega (arith, len_remove m n)
len_with m n (Some t) = len_insert m n t

within_by : (s : State) (m : Times) (n q : ℕ) (p : Option ℕ) (b : Bool) → (q == n) ≡ b → AreInRange s m → low (state_sight s) s.span.next ≤ n → n ≤ unwrap_or s.span.top 0 + 1 → IsSome (if b then p else map.get m q) → (low (state_sight s) s.span.next ≤ q) × (q ≤ unwrap_or s.span.top 0 + 1)
within_by s m n q p true same w from to e = let is : q ≡ n = grind (arith, common_steps) in (omega arith, omega arith)
within_by s m n q p false other w from to e = w q e

pub within_with : (s : State) (m : Times) (n q : ℕ) (p : Option ℕ) → AreInRange s m → low (state_sight s) s.span.next ≤ n → n ≤ unwrap_or s.span.top 0 + 1 → IsSome (map.get (with_timer m n p) q) → (low (state_sight s) s.span.next ≤ q) × (q ≤ unwrap_or s.span.top 0 + 1)
within_with s m n q p w from to e = within_by s m n q p (q == n) refl w from to (subst (λ (o : Option ℕ). IsSome o) (get_with m n q p) e)

pub ready_next : (s : State) (x y : Timers) (n most : ℕ) (p : Option ℕ) → IsReady s x most → low (state_sight s) s.span.next ≤ n → n ≤ unwrap_or s.span.top 0 + 1 → y ≡ record { room = x.room; times = with_timer x.times n p; heap = y.heap } → IsReady s y (most + 1)
ready_next s x y n most p r from to e =
    record {
      room = ap (λ (z : Timers). z.room) e ∙ r.room;
      few = let times : y.times ≡ with_timer x.times n p = ap (λ (z : Timers). z.times) e in rw times (omega (arith, len_with x.times n p, r.few));
      within = λ q is. within_with s x.times n q p r.within from to (subst (λ (z : Timers). IsSome (map.get z.times q)) e is);
    }

-- below the lowest number there is none
pub none_below : (s : State) (m : Times) (q : ℕ) (o : Option ℕ) → map.get m q ≡ o → AreInRange s m → q < low (state_sight s) s.span.next → IsTimer s.settings (state_sight s) (low (state_sight s) s.span.next) q o
none_below s m q None e w lt = record { some = λ t f. cc; none = λ _ le _. absurd (omega arith) }
none_below s m q (Some t) e w lt = absurd (let le : low (state_sight s) s.span.next ≤ q = (w q (ap is_some e)).0 in omega arith)

-- the first two are set
two_set : (s : State) (x y z : Timers) (number q : ℕ) → s.span.top ≡ Some number → low (state_sight s) s.span.next ≤ number → AreTimersBut s number x.times → y ≡ record { room = x.room; times = with_timer x.times number (pending s.settings (state_sight s) number); heap = y.heap } → z ≡ record { room = y.room; times = with_timer y.times (number + 1) (pending s.settings (state_sight s) (number + 1)); heap = z.heap }
    → (s.settings.reorder ≢ 0 → q + s.settings.reorder ≢ number) → IsTimer s.settings (state_sight s) (low (state_sight s) s.span.next) q (map.get z.times q)
two_set s x y z number q top from h e f other =
    subst (λ (w : Timers). IsTimer s.settings (state_sight s) (low (state_sight s) s.span.next) q (map.get w.times q)) (sym f)
    (set_timer s.settings (state_sight s) (low (state_sight s) s.span.next) (number + 1) q y.times (omega arith) (λ above.
    subst (λ (w : Timers). IsTimer s.settings (state_sight s) (low (state_sight s) s.span.next) q (map.get w.times q)) (sym e)
    (set_timer s.settings (state_sight s) (low (state_sight s) s.span.next) number q x.times from (λ own. h q own above other))))

pub three_set : (s : State) (x y z w : Timers) (number reorder : ℕ) → s.span.top ≡ Some number → low (state_sight s) s.span.next ≤ number → AreTimersBut s number x.times → y ≡ record { room = x.room; times = with_timer x.times number (pending s.settings (state_sight s) number); heap = y.heap } → z ≡ record { room = y.room; times = with_timer y.times (number + 1) (pending s.settings (state_sight s) (number + 1)); heap = z.heap }
    → reorder ≡ s.settings.reorder → low (state_sight s) s.span.next + reorder ≤ number → w ≡ record { room = z.room; times = with_timer z.times (number - reorder) (pending s.settings (state_sight s) (number - reorder)); heap = w.heap } → AreTimers s w.times
three_set s x y z w number reorder top from h e f is le g q =
    subst (λ (u : Timers). IsTimer s.settings (state_sight s) (low (state_sight s) s.span.next) q (map.get u.times q)) (sym g)
    (set_timer s.settings (state_sight s) (low (state_sight s) s.span.next) (number - reorder) q z.times (omega arith) (λ other.
    two_set s x y z number q top from h e f (λ _ sum. other (omega arith))))

pub two_right : (s : State) (x y z : Timers) (number reorder : ℕ) → s.span.top ≡ Some number → low (state_sight s) s.span.next ≤ number → AreTimersBut s number x.times → AreInRange s z.times → y ≡ record { room = x.room; times = with_timer x.times number (pending s.settings (state_sight s) number); heap = y.heap } → z ≡ record { room = y.room; times = with_timer y.times (number + 1) (pending s.settings (state_sight s) (number + 1)); heap = z.heap }
    → reorder ≡ s.settings.reorder → number < low (state_sight s) s.span.next + reorder → AreTimers s z.times
two_right s x y z number reorder top from h w e f is lt q =
    elim (nat_le (low (state_sight s) s.span.next) q) as (λ b. nat_le (low (state_sight s) s.span.next) q ≡ b → IsTimer s.settings (state_sight s) (low (state_sight s) s.span.next) q (map.get z.times q)) [
      | true ↦ λ c. let above : low (state_sight s) s.span.next ≤ q = grind (arith, common_steps) in two_set s x y z number q top from h e f (λ _ sum. omega arith)
      | false ↦ λ c. none_below s z.times q (map.get z.times q) refl w (grind (arith, common_steps))
    ] refl

-- ---- what a packet one above the greatest number leaves of the others

pub wanted_below : (s : Settings) (v w : Sight) (q : ℕ) → q < v.top → q < w.top → w.among q ≡ v.among q → w.first_due q ≡ v.first_due q → expected w.marks q ≡ expected v.marks q → w.latency ≡ v.latency → wanted s w q ≡ wanted s v q
wanted_below s v w q old new among first expects latency =
    let below_old : nat_lt q v.top ≡ true = grind (arith, common_steps) in
    let below_new : nat_lt q w.top ≡ true = grind (arith, common_steps) in
    let after_old : (q == v.top + 1) ≡ false = grind (arith, common_steps) in
    let after_new : (q == w.top + 1) ≡ false = grind (arith, common_steps) in
    rw (below_old, below_new, after_old, after_new, among, first, expects, latency) refl

pub expected_same : (o : Option ℕ) (m : Mark) (ms : List Mark) (t q : ℕ) → is_next_mark ms (t + 1) ≡ true → q < t → t < m.number → ((k : ℕ) → o ≡ Some k → k ≤ q) → expected (m ∷ before_another o ms) q ≡ expected ms q
expected_same o m [] t q is lt above low = cc
expected_same None m (b ∷ ms) t q is lt above low =
    let past : nat_le m.number q ≡ false = grind (arith, common_steps) in
    let before : nat_le b.number q ≡ false = grind (arith, common_steps) in
    rw (past, before) refl
expected_same (Some k) m (b ∷ ms) t q is lt above low =
    let le : k ≤ q = low k refl in
    let past : nat_le m.number q ≡ false = grind (arith, common_steps) in
    let before : nat_le b.number q ≡ false = grind (arith, common_steps) in
    let whole : nat_le b.number k ≡ false = grind (arith, common_steps) in
    rw (past, whole, before) refl

-- the first stamp from a number on, with one peak more
stamp_same : (o : Option ℕ) (ps : List Peak) (p : Peak) (t m : ℕ) → p.number ≡ t + 1 → IsPast o m → (m ≤ t → is_some (stamp_from ps m) ≡ true) → m ≢ t + 1 → stamp_from (above_next o (ps ++ p ∷ [])) m ≡ stamp_from ps m
stamp_same o ps p t m is past reach other =
    stamp_next o m (ps ++ p ∷ []) past ∙ stamp_last m ps p
    ∙ elim (nat_le m p.number) as (λ b. nat_le m p.number ≡ b → or_else (stamp_from ps m) (if b then Some p.stamp else None) ≡ stamp_from ps m) [
      | true ↦ λ e. or_known (stamp_from ps m) (Some p.stamp) (reach (let le : m ≤ p.number = grind (arith, common_steps) in omega arith))
      | false ↦ λ e. or_none (stamp_from ps m)
    ] refl

first_same : (s : Settings) (o : Option ℕ) (ps : List Peak) (p : Peak) (t q : ℕ) → p.number ≡ t + 1 → q < t → ((m : ℕ) → q < m → IsPast o m) → ((m : ℕ) → q < m → m ≤ t → is_some (stamp_from ps m) ≡ true) → (s.reorder ≢ 0 → q + s.reorder ≢ t + 1) → first_due_by s (above_next o (ps ++ p ∷ [])) q ≡ first_due_by s ps q
first_same s o ps p t q is lt past reach other =
    ap (λ (x : Option ℕ). lesser (later s.rtx_delay x) (if s.reorder == 0 then None else stamp_from (above_next o (ps ++ p ∷ [])) (q + s.reorder))) (stamp_same o ps p t (q + 1) is (past (q + 1) (omega arith)) (reach (q + 1) (omega arith)) (omega arith))
    ∙ ap (λ (x : Option ℕ). lesser (later s.rtx_delay (stamp_from ps (q + 1))) x)
    (elim (s.reorder == 0) as (λ b. (s.reorder == 0) ≡ b → (if b then None else stamp_from (above_next o (ps ++ p ∷ [])) (q + s.reorder)) ≡ (if b then None else stamp_from ps (q + s.reorder))) [
      | true ↦ λ _. refl
      | false ↦ λ e. let some : s.reorder ≢ 0 = grind (arith, common_steps) in
          let more : q < q + s.reorder = omega arith in
          stamp_same o ps p t (q + s.reorder) is (past (q + s.reorder) more) (reach (q + s.reorder) more) (other some)
    ] refl)

-- a packet one above the greatest number, which is the latest height, was accepted
pub record IsNext (old new : State) (a : Arrival) (n : ℕ) : Type 0 where
  pub settings : new.settings ≡ old.settings
  pub progress : new.progress ≡ pushed_progress old.progress a.stamp
  pub accepts : Accepts old new a n
  pub original : is_original a.origin ≡ true
  pub some : is_some old.span.top ≡ true
  pub above : n ≡ unwrap_or old.span.top 0 + 1
  pub latest : is_next_mark old.heights (unwrap_or old.span.top 0 + 1) ≡ true

pub known : (o : Option ℕ) → is_some o ≡ true → o ≡ Some (unwrap_or o 0)
known None e = cc
known (Some x) e = refl

is_above_top : (t : Option ℕ) (n : ℕ) → n ≡ unwrap_or t 0 + 1 → is_above t n ≡ true
is_above_top None n e = refl
is_above_top (Some x) n e = grind (arith, common_steps)

pub next_top : (old new : State) (a : Arrival) (n : ℕ) → IsNext old new a n → new.span.top ≡ Some n
next_top old new a n x = ap (λ (y : Span). y.top) x.accepts.span ∙ ap Some (omega (arith, x.above))

least_min : (t l : Option ℕ) (n : ℕ) → is_some l ≡ is_some t → is_some t ≡ true → unwrap_or l 0 ≤ unwrap_or t 0 → n ≡ unwrap_or t 0 + 1 → min n (unwrap_or l n) ≡ unwrap_or l 0
least_min t None n e some le is = cc
least_min t (Some l) n e some le is = omega arith

pub next_low : (old new : State) (a : Arrival) (n : ℕ) → IsBounded old → IsNext old new a n → low (state_sight new) new.span.next ≡ low (state_sight old) old.span.next
next_low old new a n b x =
    low_by new old new.span.next old.span.next (ap (λ (y : Span). y.next) x.accepts.span)
    (ap (λ (y : Span). unwrap_or y.least 0) x.accepts.span ∙ least_min old.span.top old.span.least n b.least_known x.some b.least_top x.above)

peaks_with : (old new : State) (a : Arrival) (n : ℕ) → IsNext old new a n → new.peaks ≡ above_next old.span.next (old.peaks ++ record { number = n; stamp = a.stamp } ∷ [])
peaks_with old new a n x = x.accepts.peaks ∙ rw (is_above_top old.span.top n x.above) refl

heights_with : (old new : State) (a : Arrival) (n : ℕ) (x : IsNext old new a n) → new.heights ≡ record { number = n; pts = x.accepts.pts } ∷ before_another old.span.next old.heights
heights_with old new a n x = x.accepts.heights ∙ rw (x.original, is_above_top old.span.top n x.above) refl

pub past_low : (s : State) (o : Option ℕ) (q m : ℕ) → low (state_sight s) o ≤ q → q < m → IsPast o m
past_low s None q m le lt = tt
past_low s (Some k) q m le lt = omega arith

pub low_known : (s : State) (o : Option ℕ) (q k : ℕ) → low (state_sight s) o ≤ q → o ≡ Some k → k ≤ q
low_known s None q k le e = cc
low_known s (Some j) q k le e = let same : j ≡ k = cc in omega arith

pub held_other : (old new : State) (a : Arrival) (n q : ℕ) → Accepts old new a n → q ≢ n
    → is_some (map.get new.held q) ≡ is_some (map.get old.held q)
held_other old new a n q r other =
    let apart : (q == n) ≡ false = grind (arith, common_steps) in
    ap is_some (ap (λ (m : map.FinMap nat_cmp Held). map.get m q) r.held ∙ map.get-insert nat_cmp_total old.held n (record { pts = r.pts; packet = a.packet }) q ∙ ap (λ (b : Bool). if b then Some (record { pts = r.pts; packet = a.packet }) else map.get old.held q) (unsigned_tied q n ∙ apart))

below_same : (old new : State) (a : Arrival) (n q : ℕ) → IsBounded old → IsNext old new a n → low (state_sight old) old.span.next ≤ q → q < unwrap_or old.span.top 0 → (old.settings.reorder ≢ 0 → q + old.settings.reorder ≢ n) → wanted old.settings (state_sight new) q ≡ wanted old.settings (state_sight old) q
below_same old new a n q b x le lt other =
    wanted_below old.settings (state_sight old) (state_sight new) q lt
    (omega (arith, ap (λ (o : Option ℕ). unwrap_or o 0) (next_top old new a n x), x.above))
    (held_other old new a n q x.accepts (omega (arith, x.above)))
    (ap (λ (s : Settings). first_due_by s new.peaks q) x.settings ∙ ap (λ (ps : List Peak). first_due_by old.settings ps q) (peaks_with old new a n x)
    ∙ first_same old.settings old.span.next old.peaks (record { number = n; stamp = a.stamp }) (unwrap_or old.span.top 0) q x.above lt (λ m more. past_low old old.span.next q m le more)
    (λ m more to. b.reach m (past_low old old.span.next q m le more) x.some to) (λ some sum. other some (omega (arith, x.above))))
    (ap (λ (ms : List Mark). expected ms q) (heights_with old new a n x) ∙ expected_same old.span.next (record { number = n; pts = x.accepts.pts }) old.heights (unwrap_or old.span.top 0) q x.latest lt (omega (arith, x.above)) (λ k e. low_known old old.span.next q k le e))
    (ap (λ (p : Progress). p.latency) x.progress)

late_not : (s : State) (o : Option ℕ) (t : ℕ) → low (state_sight s) o ≤ t → is_late o t ≡ false
late_not s None t le = refl
late_not s (Some k) t le = grind (arith, common_steps)

others_same : (old new : State) (a : Arrival) (n q : ℕ) → IsBounded old → IsNext old new a n → low (state_sight old) old.span.next ≤ q → q ≢ n → q ≢ n + 1 → (old.settings.reorder ≢ 0 → q + old.settings.reorder ≢ n) → wanted old.settings (state_sight new) q ≡ wanted old.settings (state_sight old) q
others_same old new a n q b x le own above other =
    let top : (state_sight new).top ≡ n = ap (λ (o : Option ℕ). unwrap_or o 0) (next_top old new a n x) in
    elim (nat_lt q (unwrap_or old.span.top 0)) as (λ c. nat_lt q (unwrap_or old.span.top 0) ≡ c → wanted old.settings (state_sight new) q ≡ wanted old.settings (state_sight old) q) [
      | true ↦ λ e. below_same old new a n q b x le (grind (arith, common_steps)) other
      | false ↦ λ e. elim (q == unwrap_or old.span.top 0) as (λ c. (q == unwrap_or old.span.top 0) ≡ c → wanted old.settings (state_sight new) q ≡ wanted old.settings (state_sight old) q) [
        | true ↦ λ f.
            let is : q ≡ unwrap_or old.span.top 0 = grind (arith, common_steps) in
            let held_old : is_some (map.get old.held q) ≡ true = b.top_held q (known old.span.top x.some ∙ ap Some (sym is)) (late_not old old.span.next q le) in
            let held_new : is_some (map.get new.held q) ≡ true = held_other old new a n q x.accepts own ∙ held_old in
            wanted_there old.settings (state_sight new) q (omega (arith, top, is, x.above)) held_new
            ∙ sym (subst (λ (k : ℕ). wanted old.settings (state_sight old) k ≡ None) (sym is) (wanted_top old.settings (state_sight old)))
        | false ↦ λ f. let more : n + 1 < q = (let up : unwrap_or old.span.top 0 < q = grind (arith, common_steps) in omega (arith, x.above)) in
            wanted_above old.settings (state_sight new) q (omega (arith, top)) ∙ sym (wanted_above old.settings (state_sight old) q (omega (arith, x.above)))
      ] refl
    ] refl

others_keep : (old new : State) (a : Arrival) (n q : ℕ) → IsBounded old → IsNext old new a n → low (state_sight old) old.span.next ≤ q → q ≢ n → q ≢ n + 1 → (old.settings.reorder ≢ 0 → q + old.settings.reorder ≢ n) → Keeps old.settings (state_sight old) (state_sight new) q
others_keep old new a n q b x le own above other =
    let same : wanted old.settings (state_sight new) q ≡ wanted old.settings (state_sight old) q = others_same old new a n q b x le own above other in
    record {
      wanted_is = same;
      pending_is = ap (λ (y : Option Wanted). pending_of old.settings (served_in new.served q) y) same ∙ ap (λ (xs : List Service). pending_of old.settings (served_in xs q) (wanted old.settings (state_sight old) q)) x.accepts.served;
    }

pub next_timers : (old new : State) (a : Arrival) (n : ℕ) (m : Times) → IsBounded old → IsNext old new a n → AreTimers old m → AreTimersBut new n m
next_timers old new a n m b x h q own above other =
    timer_at old new (low (state_sight old) old.span.next) q (map.get m q) x.settings (next_low old new a n b x)
    (carry old.settings (state_sight old) (state_sight new) (low (state_sight old) old.span.next) (low (state_sight old) old.span.next) q (map.get m q) (h q) (omega arith)
    (λ le. others_keep old new a n q b x le own above (subst (λ (s : Settings). s.reorder ≢ 0 → q + s.reorder ≢ n) x.settings other))
    (rw x.progress (omega arith))
    (λ lt. below_none old.settings (state_sight old) (low (state_sight old) old.span.next) q (map.get m q) (h q) lt))

pub next_range : (old new : State) (a : Arrival) (n : ℕ) (m : Times) → IsBounded old → IsNext old new a n → AreTimers old m → AreInRange new m
next_range old new a n m b x h = λ q e.
    let y : InRange old q = in_range old m q h e in
    (omega (arith, next_low old new a n b x, y.from), omega (arith, y.to, x.above, ap (λ (o : Option ℕ). unwrap_or o 0) (next_top old new a n x)))

pub next_from : (old new : State) (a : Arrival) (n : ℕ) → IsBounded old → IsNext old new a n → low (state_sight new) new.span.next ≤ n
next_from old new a n b x = omega (arith, next_low old new a n b x, low_top old b, x.above)

-- a push that was accepted, of a packet that follows the greatest number
pub is_next : (old new : State) (a : Arrival) (p : Pushed) → PushStep old new a p → p.verdict ≡ Accepted → follows_top old a ≡ true → IsNext old new a p.number
is_next old new a p r v e =
    let number : p.number ≡ state_number old a = r.number ∙ ap (λ (x : Verdict). told_number x (state_number old a) (opened_number (run_of old) a)) v in
    let accepts : Accepts old new a (state_number old a) = subst (λ (x : Verdict). SegmentAfter old a x new) v r.segment in
    record {
      settings = r.settings;
      progress = r.progress;
      accepts = subst (λ (n : ℕ). Accepts old new a n) (sym number) accepts;
      original = grind (arith, common_steps);
      some = grind (arith, common_steps);
      above = (let is : state_number old a ≡ unwrap_or old.span.top 0 + 1 = grind (arith, common_steps) in number ∙ is);
      latest = grind (arith, common_steps);
    }
