-- The request that is answered and the time of the next one, by the timers.
use Rattle.std.proofs.Common.{ℕ, zero, suc, ◌≡◌, ◌+◌, ◌-◌, ◌*◌, ◌≤◌, ◌<◌, Bool, true, false, ◌&&◌, refl, sym, ap, subst, ◌∙◌, Option, None, Some, arith, min, inl, inr}
use Rattle.std.specs.Prelude.{◌⊎◌, nat_lt, nat_le, ◌==◌, IsSome, is_some, unwrap_or, if◌then◌else◌}
use Rattle.std.proofs.lemmas.Grind.{common_steps}
use Rattle.std.proofs.Math.Nat.{mul-le-mul_right}
use Rattle.std.specs.FinMap as map
use Rattle.std.specs.Ordering.{nat_cmp}
use Rattle.std.specs.Cmp.{nat_cmp_total, unsigned_tied}
use Rattle.jitter_timers.specs.Timers.{Times, IsFirst}
use Rattle.jitter_model.specs.declared.Settings.{Settings}
use Rattle.jitter_model.specs.Requests.{lesser, due, Wanted, Asked, earlier}
use Rattle.jitter_model.specs.Turns.{Sight, low, wanted, first_undue, is_asked, asked_for, asked_from, wake_of_wanted, request_wake, request_wake_from}
use Rattle.jitter_core.specs.declared.state.State.{State}
use Rattle.jitter_core.specs.Steps.{IsBounded}
use Rattle.jitter_core.specs.Scheduling.{pending_of, pending, is_over, IsTimer, AreTimers, AreLater, state_request}
use Rattle.jitter_core.specs.Turning.{state_sight, state_asked, state_wake}
use Rattle.jitter_core.proofs.Timers.{InRange, in_range}
use Rattle.jitter_core.proofs.Cases.{split}
use Rattle.jitter_model.specs.Known.{RepliesTell}
use Rattle.jitter_model.specs.Known.{SearchesFindTheLeast}

-- ---- one number

-- a request that is due is the one of the number's timer
pub record IsDue (v : Sight) (n : ℕ) (timer : Option ℕ) (a : Asked) : Type 0 where
  pub timer_is : timer ≡ Some a.time
  pub by_now : a.time ≤ v.time
  pub number_is : a.number ≡ n

asked_pends : (s : Settings) (v : Sight) (n : ℕ) (x : Option Wanted) (a : Asked) → asked_for s v n x ≡ Some a → (pending_of s (v.served n) x ≡ Some a.time) × (is_over v.time x ≡ false) × (a.time ≤ v.time) × (a.number ≡ n)
asked_pends s v n None a e = cc
asked_pends s v n (Some w) a e =
    elim (is_asked s v w (v.served n)) as (λ b. is_asked s v w (v.served n) ≡ b → (if b then Some (record { time = due s w.first (v.served n); number = n; k = first_undue s v w.first (v.served n) - 1 }) else None) ≡ Some a → (pending_of s (v.served n) (Some w) ≡ Some a.time) × (is_over v.time (Some w) ≡ false) × (a.time ≤ v.time) × (a.number ≡ n)) [
      | true ↦ λ is f.
          let same : record { time = due s w.first (v.served n); number = n; k = first_undue s v w.first (v.served n) - 1 } ≡ a = cc in
          let time : due s w.first (v.served n) ≡ a.time = ap (λ (x : Asked). x.time) same in
          let number : n ≡ a.number = ap (λ (x : Asked). x.number) same in
          let unserved : nat_le (v.served n) s.rtx_max ≡ true = grind (arith, common_steps) in
          let by_now : due s w.first (v.served n) ≤ v.time = grind (arith, common_steps) in
          let alive : v.time < w.limit = grind (arith, common_steps) in
          let before : nat_lt (due s w.first (v.served n)) w.limit ≡ true = grind (arith, common_steps) in
          (rw (unserved, before) (ap Some time), grind (arith, common_steps), omega (arith, time, by_now), sym number)
      | false ↦ λ _ f. cc
    ] refl e

timer_due : (s : Settings) (v : Sight) (from n : ℕ) (o : Option ℕ) (a : Asked) → IsTimer s v from n o → from ≤ n → asked_for s v n (wanted s v n) ≡ Some a → IsDue v n o a
timer_due s v from n None a h le e =
    let x = asked_pends s v n (wanted s v n) a e in
    let none : pending s v n ≡ None = h.none refl le x.1 in
    cc
timer_due s v from n (Some t) a h le e =
    let x = asked_pends s v n (wanted s v n) a e in
    let is : pending s v n ≡ Some t = (h.some t refl).1 in
    let same : t ≡ a.time = cc in
    record { timer_is = ap Some same; by_now = x.2; number_is = x.3 }

pub some_if : (b : Bool) (x t : ℕ) → (if b then Some x else None) ≡ Some t → b ≡ true
some_if true x t e = refl
some_if false x t e = cc

pub value_if : (b : Bool) (x t : ℕ) → (if b then Some x else None) ≡ Some t → x ≡ t
value_if true x t e = cc
value_if false x t e = cc

never_both : (o : Option Asked) (a : Asked) → o ≡ Some a → o ≡ None → ⊥
never_both o a e f = cc

asked_some : (s : Settings) (v : Sight) (n : ℕ) (w : Wanted) → is_asked s v w (v.served n) ≡ true → asked_for s v n (Some w) ≡ None → ⊥
asked_some s v n w e none = never_both (asked_for s v n (Some w)) (record { time = due s w.first (v.served n); number = n; k = first_undue s v w.first (v.served n) - 1 }) (rw e refl) none

-- where a timer is due and nothing is asked the limit has passed
over_by : (s : Settings) (v : Sight) (n t : ℕ) (x : Option Wanted) → pending_of s (v.served n) x ≡ Some t → t ≤ v.time → asked_for s v n x ≡ None → is_over v.time x ≡ true
over_by s v n t None e le a = refl
over_by s v n t (Some w) e le a =
    elim (nat_le w.limit v.time) as (λ b. nat_le w.limit v.time ≡ b → b ≡ true) [
      | true ↦ λ _. refl
      | false ↦ λ f.
          let x : (nat_le (v.served n) s.rtx_max && nat_lt (due s w.first (v.served n)) w.limit) ≡ true = some_if _ (due s w.first (v.served n)) t e in
          let same : due s w.first (v.served n) ≡ t = value_if _ (due s w.first (v.served n)) t e in
          let now : nat_le (due s w.first (v.served n)) v.time ≡ true = grind (arith, common_steps) in
          let alive : nat_lt v.time w.limit ≡ true = grind (arith, common_steps) in
          let unserved : nat_le (v.served n) s.rtx_max ≡ true = grind (arith, common_steps) in
          let asks : is_asked s v w (v.served n) ≡ true = rw (unserved, now, alive) refl in
          absurd (asked_some s v n w asks a)
    ] refl

-- a timer that is dropped because its limit has passed
pub dropped : (s : Settings) (v : Sight) (from n t : ℕ) (o : Option ℕ) → o ≡ Some t → t ≤ v.time → asked_for s v n (wanted s v n) ≡ None → IsTimer s v from n o → IsTimer s v from n None
dropped s v from n t o is le a h =
    let x : (from ≤ n) × (pending s v n ≡ Some t) = h.some t is in
    let over : is_over v.time (wanted s v n) ≡ true = over_by s v n t (wanted s v n) x.1 le a in
    record { some = λ u e. cc; none = λ _ _ alive. cc }

-- ---- all numbers

none_asked : (s : Settings) (v : Sight) (n count : ℕ) → ((q : ℕ) → n ≤ q → asked_for s v q (wanted s v q) ≡ None) → asked_from s v n count ≡ None
none_asked s v n zero none = refl
none_asked s v n (suc count) none = rw (none n (omega arith), none_asked s v (n + 1) count (λ q le. none q (omega arith))) refl

-- what is asked is asked for one of the numbers
record AskedAt (s : Settings) (v : Sight) (n : ℕ) (o : Option Asked) : Type 0 where
  fact : (a : Asked) → o ≡ Some a → (q : ℕ) × (n ≤ q) × (asked_for s v q (wanted s v q) ≡ Some a)

among_by : (s : Settings) (v : Sight) (n : ℕ) (x y : Option Asked) → asked_for s v n (wanted s v n) ≡ x → AskedAt s v (n + 1) y → AskedAt s v n (earlier x y)
among_by s v n None y e h = record { fact = λ a f. let z = h.fact a f in (z.0, omega (arith, z.1), z.2) }
among_by s v n (Some x) None e h = record { fact = λ a f. (n, omega arith, e ∙ f) }
among_by s v n (Some x) (Some y) e h =
    split (AskedAt s v n) (nat_lt y.time x.time) (Some y) (Some x)
    (λ _. record { fact = λ a f. let z = h.fact a f in (z.0, omega (arith, z.1), z.2) })
    (λ _. record { fact = λ a f. (n, omega arith, e ∙ f) })

asked_among : (s : Settings) (v : Sight) (n count : ℕ) → AskedAt s v n (asked_from s v n count)
asked_among s v n zero = record { fact = λ a e. cc }
asked_among s v n (suc count) = among_by s v n (asked_for s v n (wanted s v n)) (asked_from s v (n + 1) count) refl (asked_among s v (n + 1) count)

-- the least pair of time and number
pub record IsLeast (s : Settings) (v : Sight) (n : ℕ) (a : Asked) : Type 0 where
  pub fact : (q : ℕ) (b : Asked) → n ≤ q → asked_for s v q (wanted s v q) ≡ Some b → (a.time < b.time) ⊎ ((a.time ≡ b.time) × (a.number ≤ q))

not_earlier : (a b : Asked) (q : ℕ) → (a.time < b.time) ⊎ ((a.time ≡ b.time) × (a.number ≤ q)) → nat_lt b.time a.time ≡ false
not_earlier a b q h = elim h [ inl before ↦ grind (arith, common_steps) | inr same ↦ let is = same.0 in grind (arith, common_steps) ]

is_earlier : (a b : Asked) (q : ℕ) → q < a.number → (a.time < b.time) ⊎ ((a.time ≡ b.time) × (a.number ≤ q)) → nat_lt a.time b.time ≡ true
is_earlier a b q lt h = elim h [ inl before ↦ grind (arith, common_steps) | inr same ↦ let le = same.1 in absurd (omega arith) ]

first_least : (s : Settings) (v : Sight) (n : ℕ) (a : Asked) (y : Option Asked) → IsLeast s v n a → AskedAt s v (n + 1) y → earlier (Some a) y ≡ Some a
first_least s v n a None l h = refl
first_least s v n a (Some b) l h =
    let z = h.fact b refl in
    let last : nat_lt b.time a.time ≡ false = not_earlier a b z.0 (l.fact z.0 b (omega (arith, z.1)) z.2) in
    rw last refl

later_least : (s : Settings) (v : Sight) (n : ℕ) (a : Asked) (x : Option Asked) → n < a.number → IsLeast s v n a → asked_for s v n (wanted s v n) ≡ x → earlier x (Some a) ≡ Some a
later_least s v n a None lt l e = refl
later_least s v n a (Some b) lt l e = let first : nat_lt a.time b.time ≡ true = is_earlier a b n lt (l.fact n b (omega arith) e) in rw first refl

pub least_asked : (s : Settings) (v : Sight) (n count : ℕ) (a : Asked) → n ≤ a.number → a.number < n + count → asked_for s v a.number (wanted s v a.number) ≡ Some a → IsLeast s v n a → asked_from s v n count ≡ Some a
least_asked s v n zero a from to e l = absurd (omega arith)
least_asked s v n (suc count) a from to e l =
    elim (n == a.number) as (λ b. (n == a.number) ≡ b → asked_from s v n (suc count) ≡ Some a) [
      | true ↦ λ same.
          let is : n ≡ a.number = grind (arith, common_steps) in
          let here : asked_for s v n (wanted s v n) ≡ Some a = subst (λ (m : ℕ). asked_for s v m (wanted s v m) ≡ Some a) (sym is) e in
          ap (λ (x : Option Asked). earlier x (asked_from s v (n + 1) count)) here ∙ first_least s v n a (asked_from s v (n + 1) count) l (asked_among s v (n + 1) count)
      | false ↦ λ other.
          let lt : n < a.number = grind (arith, common_steps) in
          let rest : asked_from s v (n + 1) count ≡ Some a = least_asked s v (n + 1) count a (omega arith) (omega arith) e (record { fact = λ q b le f. l.fact q b (omega arith) f }) in
          ap (λ (x : Option Asked). earlier (asked_for s v n (wanted s v n)) x) rest ∙ later_least s v n a (asked_for s v n (wanted s v n)) lt l refl
    ] refl

-- ---- by the timers of a state

least_by : (time number q : ℕ) (a c : Asked) → time ≡ a.time → a.number ≡ number → (time < c.time) ⊎ ((time ≡ c.time) × (number ≤ q)) → (a.time < c.time) ⊎ ((a.time ≡ c.time) × (a.number ≤ q))
least_by time number q a c is same h = elim h [ inl before ↦ inl (omega arith) | inr tied ↦ let e = tied.0 in let le = tied.1 in inr (omega arith, omega arith) ]

not_asked : (s : State) (m : Times) (q : ℕ) (o : Option Asked) → asked_for s.settings (state_sight s) q (wanted s.settings (state_sight s) q) ≡ o → AreTimers s m → AreLater s.progress.time m → low (state_sight s) s.span.next ≤ q → o ≡ None
not_asked s m q None e h l le = refl
not_asked s m q (Some a) e h l le =
    let d : IsDue (state_sight s) q (map.get m q) a = timer_due s.settings (state_sight s) (low (state_sight s) s.span.next) q (map.get m q) a (h q) le e in
    let later : s.progress.time < a.time = l q a.time d.timer_is in
    absurd (omega (arith, d.by_now, later))

-- the least timer is due, and its request is asked
pub first_asked : (s : State) (m : Times) (time number : ℕ) (a : Asked) → IsBounded s → AreTimers s m → IsFirst m (time, number) → asked_for s.settings (state_sight s) number (wanted s.settings (state_sight s) number) ≡ Some a → state_asked s ≡ Some a
first_asked s m time number a b h f e =
    let there : IsSome (map.get m number) = ap is_some f.0 in
    let r : InRange s number = in_range s m number h there in
    let d : IsDue (state_sight s) number (map.get m number) a = timer_due s.settings (state_sight s) (low (state_sight s) s.span.next) number (map.get m number) a (h number) r.from e in
    let same : Some time ≡ Some a.time = sym f.0 ∙ d.timer_is in
    let is : time ≡ a.time = cc in
    least_asked s.settings (state_sight s) (low (state_sight s) s.span.next) (unwrap_or s.span.top 0 + 2 - low (state_sight s) s.span.next) a
    (omega (arith, r.from, d.number_is)) (omega (arith, r.from, r.to, d.number_is))
    (subst (λ (n : ℕ). asked_for s.settings (state_sight s) n (wanted s.settings (state_sight s) n) ≡ Some a) (sym d.number_is) e)
    (record {
      fact = λ q c le g.
          let x : IsDue (state_sight s) q (map.get m q) c = timer_due s.settings (state_sight s) (low (state_sight s) s.span.next) q (map.get m q) c (h q) le g in
          least_by time number q a c is d.number_is (f.1 q c.time x.timer_is);
    })

-- no timer is due
pub none_due : (s : State) (m : Times) → AreTimers s m → AreLater s.progress.time m → state_asked s ≡ None
none_due s m h l =
    none_asked s.settings (state_sight s) (low (state_sight s) s.span.next) (unwrap_or s.span.top 0 + 2 - low (state_sight s) s.span.next) (λ q le.
    not_asked s m q (asked_for s.settings (state_sight s) q (wanted s.settings (state_sight s) q)) refl h l le)

pub later_all : (m : Times) (time now number : ℕ) → IsFirst m (time, number) → now < time → AreLater now m
later_all m time now number f lt n t e = elim (f.1 n t e) [ inl before ↦ omega arith | inr same ↦ let is = same.0 in omega arith ]

pub none_later : (m : Times) (now : ℕ) → m ≡ map.empty → AreLater now m
none_later m now e n t is = let none : map.get m n ≡ None = ap (λ (x : Times). map.get x n) e ∙ map.get-empty nat_cmp n in cc

dropped_at : (s : State) (m : Times) (number time n : ℕ) → AreTimers s m → map.get m number ≡ Some time → time ≤ s.progress.time → asked_for s.settings (state_sight s) number (wanted s.settings (state_sight s) number) ≡ None → IsTimer s.settings (state_sight s) (low (state_sight s) s.span.next) n (if n == number then None else map.get m n)
dropped_at s m number time n h is le none =
    elim (n == number) as (λ b. (n == number) ≡ b → IsTimer s.settings (state_sight s) (low (state_sight s) s.span.next) n (if b then None else map.get m n)) [
      | true ↦ λ e. let same : n ≡ number = grind (arith, common_steps) in
          subst (λ (k : ℕ). IsTimer s.settings (state_sight s) (low (state_sight s) s.span.next) k None) (sym same)
          (dropped s.settings (state_sight s) (low (state_sight s) s.span.next) number time (map.get m number) is le none (h number))
      | false ↦ λ _. h n
    ] refl

-- a timer that is due and whose request is not asked can be dropped
pub drops : (s : State) (m : Times) (number time : ℕ) → AreTimers s m → map.get m number ≡ Some time → time ≤ s.progress.time → asked_for s.settings (state_sight s) number (wanted s.settings (state_sight s) number) ≡ None → AreTimers s (map.remove m number)
drops s m number time h is le none n =
    subst (λ (o : Option ℕ). IsTimer s.settings (state_sight s) (low (state_sight s) s.span.next) n o)
    (sym (map.get-remove nat_cmp_total m number n ∙ ap (λ (b : Bool). if b then None else map.get m n) (unsigned_tied n number)))
    (dropped_at s m number time n h is le none)

-- ---- the next request

-- a later request is due later
due_later : (s : Settings) (first j k : ℕ) → j ≤ k → due s first j ≤ due s first k
due_later s first j k le = let product : j * s.rtx_retry ≤ k * s.rtx_retry = mul-le-mul_right s.rtx_retry le in omega arith

-- where the first unserved request is still to come it is the first that isn't due
undue_first : SearchesFindTheLeast → (s : Settings) (v : Sight) (first served : ℕ) → v.time < due s first served → first_undue s v first served ≡ served
undue_first searches s v first served lt = searches.is (λ k. nat_lt v.time (due s first k)) served (s.rtx_max + 1 - served) served (omega arith) (omega arith) (λ q from to. absurd (omega arith)) (λ _. grind (arith, common_steps))

wake_some : SearchesFindTheLeast → (s : Settings) (v : Sight) (n t : ℕ) (x : Option Wanted) → pending_of s (v.served n) x ≡ Some t → v.time < t → wake_of_wanted s v (v.served n) x ≡ Some t
wake_some searches s v n t None e lt = cc
wake_some searches s v n t (Some w) e lt =
    let both : (nat_le (v.served n) s.rtx_max && nat_lt (due s w.first (v.served n)) w.limit) ≡ true = some_if _ (due s w.first (v.served n)) t e in
    let same : due s w.first (v.served n) ≡ t = value_if _ (due s w.first (v.served n)) t e in
    let is : first_undue s v w.first (v.served n) ≡ v.served n = undue_first searches s v w.first (v.served n) (omega arith) in
    rw (is, both) (ap Some same)

wake_none : RepliesTell → SearchesFindTheLeast → (s : Settings) (v : Sight) (n : ℕ) (x : Option Wanted) → (is_over v.time x ≡ false → pending_of s (v.served n) x ≡ None) → wake_of_wanted s v (v.served n) x ≡ None
wake_none replies searches s v n None e = refl
wake_none replies searches s v n (Some w) e =
    let u : ℕ = first_undue s v w.first (v.served n) in
    let from : v.served n ≤ first_undue s v w.first (v.served n) = searches.from _ (v.served n) (s.rtx_max + 1 - v.served n) in
    elim (nat_le (first_undue s v w.first (v.served n)) s.rtx_max && nat_lt (due s w.first (first_undue s v w.first (v.served n))) w.limit) as (λ b. (nat_le (first_undue s v w.first (v.served n)) s.rtx_max && nat_lt (due s w.first (first_undue s v w.first (v.served n))) w.limit) ≡ b → (if b then Some (due s w.first (first_undue s v w.first (v.served n))) else None) ≡ None) [
      | true ↦ λ f.
          let small : nat_le (first_undue s v w.first (v.served n)) s.rtx_max ≡ true = grind (arith, common_steps) in
          let later : v.time < due s w.first (first_undue s v w.first (v.served n)) = replies.undue s v w.first (v.served n) small in
          let before : due s w.first (first_undue s v w.first (v.served n)) < w.limit = grind (arith, common_steps) in
          let order : due s w.first (v.served n) ≤ due s w.first (first_undue s v w.first (v.served n)) = due_later s w.first (v.served n) (first_undue s v w.first (v.served n)) from in
          let alive : is_over v.time (Some w) ≡ false = grind (arith, common_steps) in
          let unserved : nat_le (v.served n) s.rtx_max ≡ true = grind (arith, common_steps) in
          let in_time : nat_lt (due s w.first (v.served n)) w.limit ≡ true = grind (arith, common_steps) in
          absurd (let none : (if nat_le (v.served n) s.rtx_max && nat_lt (due s w.first (v.served n)) w.limit then Some (due s w.first (v.served n)) else None) ≡ None = e alive in
          let bad : Some (due s w.first (v.served n)) ≡ None = rw (unserved, in_time) at none in cc)
      | false ↦ λ _. refl
    ] refl

-- once none is due, each timer is the time of the number's next request
wake_is : RepliesTell → SearchesFindTheLeast → (s : Settings) (v : Sight) (from n : ℕ) (o : Option ℕ) → IsTimer s v from n o → ((t : ℕ) → o ≡ Some t → v.time < t) → from ≤ n → request_wake s v n ≡ o
wake_is replies searches s v from n None h l le = wake_none replies searches s v n (wanted s v n) (λ alive. h.none refl le alive)
wake_is replies searches s v from n (Some t) h l le = wake_some searches s v n t (wanted s v n) (h.some t refl).1 (l t refl)

below_by : (s : Settings) (v : Sight) (from n : ℕ) (o : Option ℕ) → IsTimer s v from n o → n < from → o ≡ None
below_by s v from n None h lt = refl
below_by s v from n (Some t) h lt = let le : from ≤ n = (h.some t refl).0 in absurd (omega arith)

pub request_is : RepliesTell → SearchesFindTheLeast → (s : State) (m : Times) (n : ℕ) → AreTimers s m → AreLater s.progress.time m → map.get m n ≡ state_request s n
request_is replies searches s m n h l =
    elim (nat_le (low (state_sight s) s.span.next) n) as (λ b. nat_le (low (state_sight s) s.span.next) n ≡ b → map.get m n ≡ (if b then request_wake s.settings (state_sight s) n else None)) [
      | true ↦ λ e. sym (wake_is replies searches s.settings (state_sight s) (low (state_sight s) s.span.next) n (map.get m n) (h n) (l n) (grind (arith, common_steps)))
      | false ↦ λ e. below_by s.settings (state_sight s) (low (state_sight s) s.span.next) n (map.get m n) (h n) (grind (arith, common_steps))
    ] refl

-- ---- the least of these times

no_wakes : (s : Settings) (v : Sight) (n count : ℕ) → ((q : ℕ) → n ≤ q → request_wake s v q ≡ None) → request_wake_from s v n count ≡ None
no_wakes s v n zero none = refl
no_wakes s v n (suc count) none = rw (none n (omega arith), no_wakes s v (n + 1) count (λ q le. none q (omega arith))) refl

abbrev NotBefore : ℕ → Option ℕ → Type 0
NotBefore t o = (u : ℕ) → o ≡ Some u → t ≤ u

lesser_not : (t : ℕ) (x y : Option ℕ) → NotBefore t x → NotBefore t y → NotBefore t (lesser x y)
lesser_not t None y hx hy = hy
lesser_not t (Some x) None hx hy = hx
lesser_not t (Some x) (Some y) hx hy = λ u e. let a : t ≤ x = hx x refl in let b : t ≤ y = hy y refl in let is : min x y ≡ u = cc in omega arith

all_not : (s : Settings) (v : Sight) (t n count : ℕ) → ((q : ℕ) → n ≤ q → NotBefore t (request_wake s v q)) → NotBefore t (request_wake_from s v n count)
all_not s v t n zero h = λ u e. cc
all_not s v t n (suc count) h = lesser_not t (request_wake s v n) (request_wake_from s v (n + 1) count) (h n (omega arith)) (all_not s v t (n + 1) count (λ q le. h q (omega arith)))

lesser_left : (t : ℕ) (x y : Option ℕ) → x ≡ Some t → NotBefore t y → lesser x y ≡ Some t
lesser_left t None y e h = cc
lesser_left t (Some x) None e h = e
lesser_left t (Some x) (Some y) e h = let is : x ≡ t = cc in let le : t ≤ y = h y refl in ap Some (omega arith)

lesser_right : (t : ℕ) (x y : Option ℕ) → NotBefore t x → y ≡ Some t → lesser x y ≡ Some t
lesser_right t None y h e = e
lesser_right t (Some x) None h e = cc
lesser_right t (Some x) (Some y) h e = let is : y ≡ t = cc in let le : t ≤ x = h x refl in ap Some (omega arith)

pub least_wake : (s : Settings) (v : Sight) (n count m t : ℕ) → n ≤ m → m < n + count → request_wake s v m ≡ Some t → ((q : ℕ) → n ≤ q → NotBefore t (request_wake s v q)) → request_wake_from s v n count ≡ Some t
least_wake s v n zero m t from to e h = absurd (omega arith)
least_wake s v n (suc count) m t from to e h =
    elim (n == m) as (λ b. (n == m) ≡ b → request_wake_from s v n (suc count) ≡ Some t) [
      | true ↦ λ same. let is : n ≡ m = grind (arith, common_steps) in
          lesser_left t (request_wake s v n) (request_wake_from s v (n + 1) count) (ap (λ (q : ℕ). request_wake s v q) is ∙ e) (all_not s v t (n + 1) count (λ q le. h q (omega arith)))
      | false ↦ λ other. let lt : n < m = grind (arith, common_steps) in
          lesser_right t (request_wake s v n) (request_wake_from s v (n + 1) count) (h n (omega arith)) (least_wake s v (n + 1) count m t (omega arith) (omega arith) e (λ q le. h q (omega arith)))
    ] refl

-- the least timer is the time of the next request
pub first_wake_is : RepliesTell → SearchesFindTheLeast → (s : State) (m : Times) (time number : ℕ) → AreTimers s m → AreLater s.progress.time m → IsFirst m (time, number) → Some time ≡ state_wake s
first_wake_is replies searches s m time number h l f =
    let r : InRange s number = in_range s m number h (ap is_some f.0) in
    let wake : (q : ℕ) → low (state_sight s) s.span.next ≤ q → request_wake s.settings (state_sight s) q ≡ map.get m q = λ q le. wake_is replies searches s.settings (state_sight s) (low (state_sight s) s.span.next) q (map.get m q) (h q) (l q) le in
    sym (least_wake s.settings (state_sight s) (low (state_sight s) s.span.next) (unwrap_or s.span.top 0 + 2 - low (state_sight s) s.span.next) number time r.from (omega (arith, r.from, r.to)) (wake number r.from ∙ f.0)
    (λ q le u e. elim (f.1 q u (sym (wake q le) ∙ e)) [ inl before ↦ omega arith | inr same ↦ let is = same.0 in omega arith ]))

pub no_wake_is : RepliesTell → SearchesFindTheLeast → (s : State) (m : Times) → AreTimers s m → AreLater s.progress.time m → m ≡ map.empty → None ≡ state_wake s
no_wake_is replies searches s m h l e =
    sym (no_wakes s.settings (state_sight s) (low (state_sight s) s.span.next) (unwrap_or s.span.top 0 + 2 - low (state_sight s) s.span.next) (λ q le.
    wake_is replies searches s.settings (state_sight s) (low (state_sight s) s.span.next) q (map.get m q) (h q) (l q) le ∙ ap (λ (x : Times). map.get x q) e ∙ map.get-empty nat_cmp q))
