-- How many timers there are, and how many steps they take.
use Rattle.std.proofs.Common.{ℕ, zero, suc, ◌≡◌, ◌≢◌, ◌+◌, ◌-◌, ◌*◌, ◌^◌, ◌≤◌, ◌<◌, Bool, true, false, not, ◌&&◌, refl, sym, ap, subst, ◌∙◌, [], Option, None, Some, arith}
use Rattle.std.specs.Prelude.{nat_lt, nat_le, ◌==◌, ◌%◌, IsSome, is_some, unwrap_or, if◌then◌else◌}
use Rattle.std.proofs.lemmas.Grind.{common_steps}
use Rattle.std.proofs.Math.Nat.{pow-le-pow_right}
use Rattle.std.specs.FinMap as map
use Rattle.std.specs.Cmp.{nat_cmp_total, unsigned_tied}
use Rattle.std.specs.Ordering.{nat_cmp}
use Rattle.jitter_timers.specs.Timers.{Timers, Times, HasRoom, IsQuick}
use Rattle.jitter_model.specs.declared.Settings.{Settings}
use Rattle.jitter_model.specs.Turns.{Sight, low, low as low_of, wanted}
use Rattle.jitter_core.specs.declared.state.State.{State}
use Rattle.jitter_core.specs.Steps.{IsBounded}
use Rattle.jitter_core.specs.Scheduling.{pending, IsTimer, AreTimers, missing_from, state_gaps}
use Rattle.jitter_core.specs.Turning.{state_sight}
use Rattle.jitter_core.proofs.Leaving.{near}
use Rattle.jitter_core.proofs.Serving.{apart}
use Rattle.jitter_core.proofs.Cases.{split}

-- ---- which numbers have requests

and_false : (b : Bool) → (b && false) ≡ false
and_false true = refl
and_false false = refl

same_if : {A : Type 0} (b : Bool) (x : A) → (if b then x else x) ≡ x
same_if true x = refl
same_if false x = refl

-- none above the one after the greatest
pub wanted_above : (s : Settings) (v : Sight) (n : ℕ) → v.top + 1 < n → wanted s v n ≡ None
wanted_above s v n lt =
    let below : nat_lt n v.top ≡ false = grind (arith, common_steps) in
    let after : (n == v.top + 1) ≡ false = grind (arith, common_steps) in
    rw (below, after) (same_if (not s.rtx) None)

pub pending_above : (s : Settings) (v : Sight) (n : ℕ) → v.top + 1 < n → pending s v n ≡ None
pending_above s v n lt = rw (wanted_above s v n lt) refl

-- nor the greatest
pub wanted_top : (s : Settings) (v : Sight) → wanted s v v.top ≡ None
wanted_top s v =
    let below : nat_lt v.top v.top ≡ false = grind (arith, common_steps) in
    let after : (v.top == v.top + 1) ≡ false = grind (arith, common_steps) in
    rw (below, after) (same_if (not s.rtx) None)

-- nor a number below it that is there
pub wanted_there : (s : Settings) (v : Sight) (n : ℕ) → n < v.top → v.among n ≡ true → wanted s v n ≡ None
wanted_there s v n lt e =
    let after : (n == v.top + 1) ≡ false = grind (arith, common_steps) in
    rw (e, and_false (nat_lt n v.top), after) (same_if (not s.rtx) None)

pub pending_there : (s : Settings) (v : Sight) (n : ℕ) → n < v.top → v.among n ≡ true → pending s v n ≡ None
pending_there s v n lt e = rw (wanted_there s v n lt e) refl

-- none of a number that is there
pub pending_held : (s : Settings) (v : Sight) (n : ℕ) → n ≤ v.top → v.among n ≡ true → pending s v n ≡ None
pending_held s v n le e =
    elim (n == v.top) as (λ b. (n == v.top) ≡ b → pending s v n ≡ None) [
      | true ↦ λ f. let same : n ≡ v.top = grind (arith, common_steps) in rw same (rw (wanted_top s v) refl)
      | false ↦ λ f. pending_there s v n (grind (arith, common_steps)) e
    ] refl

-- none at all where nothing is requested again
pub none_pending : (s : Settings) (v : Sight) (n : ℕ) → s.rtx ≡ false → pending s v n ≡ None
none_pending s v n e = rw e refl

-- ---- how many there are

-- how many of the count numbers from n on have a request to come
abbrev pub sets_from : Settings → Sight → ℕ → ℕ → ℕ
sets_from s v n zero = 0
sets_from s v n (suc count) = (if is_some (pending s v n) then 1 else 0) + sets_from s v (n + 1) count

pub sets_most : (s : Settings) (v : Sight) (n count : ℕ) → sets_from s v n count ≤ count
sets_most s v n zero = omega arith
sets_most s v n (suc count) = split (λ (x : ℕ). x + sets_from s v (n + 1) count ≤ suc count) (is_some (pending s v n)) 1 0 (λ _. omega (arith, sets_most s v (n + 1) count)) (λ _. omega (arith, sets_most s v (n + 1) count))

-- below the greatest number only those that are missing
one_set : (s : Settings) (v : Sight) (n : ℕ) → n < v.top → (if is_some (pending s v n) then 1 else 0) ≤ (if v.among n then 0 else 1)
one_set s v n lt =
    elim (v.among n) as (λ b. v.among n ≡ b → (if is_some (pending s v n) then 1 else 0) ≤ (if b then 0 else 1)) [
      | true ↦ λ e. rw (pending_there s v n lt e) (omega arith)
      | false ↦ λ e. split (λ (x : ℕ). x ≤ 1) (is_some (pending s v n)) 1 0 (λ _. omega arith) (λ _. omega arith)
    ] refl

most_one : (s : Settings) (v : Sight) (n : ℕ) → sets_from s v n 1 ≤ 1
most_one s v n = sets_most s v n 1

sets_at_top : (s : Settings) (v : Sight) → sets_from s v v.top 2 ≤ 1
sets_at_top s v =
    let none : pending s v v.top ≡ None = rw (wanted_top s v) refl in
    rw none (omega (arith, sets_most s v (v.top + 1) 1))

sets_missing : (s : Settings) (v : Sight) (n count : ℕ) → n + count ≡ v.top → sets_from s v n (count + 2) ≤ missing_from v.among n count + 1
sets_missing s v n zero e = let is : n ≡ v.top = omega arith in subst (λ (m : ℕ). sets_from s v m 2 ≤ 1) (sym is) (sets_at_top s v)
sets_missing s v n (suc count) e =
    let one_more : suc count + 2 ≡ suc (count + 2) = omega arith in
    rw one_more (omega (arith, one_set s v n (omega arith), sets_missing s v (n + 1) count (omega arith)))

pub sets_gaps : (s : Settings) (v : Sight) (n : ℕ) → n ≤ v.top + 1 → sets_from s v n (v.top + 2 - n) ≤ missing_from v.among n (v.top - n) + 1
sets_gaps s v n le =
    elim (nat_le n v.top) as (λ b. nat_le n v.top ≡ b → sets_from s v n (v.top + 2 - n) ≤ missing_from v.among n (v.top - n) + 1) [
      | true ↦ λ e. let to : n ≤ v.top = grind (arith, common_steps) in
          let count : v.top + 2 - n ≡ (v.top - n) + 2 = omega arith in
          rw count (sets_missing s v n (v.top - n) (omega arith))
      | false ↦ λ e. let past : v.top < n = grind (arith, common_steps) in
          let count : v.top + 2 - n ≡ 1 = omega arith in
          rw count (omega (arith, most_one s v n))
    ] refl

-- ---- a map has no more keys than pass a test

pub no_keys : (m : Times) → ((q : ℕ) → map.get m q ≡ None) → map.len m ≡ 0
no_keys m none = ap (λ (x : Times). map.len x) (map.same_map nat_cmp_total map.nat_cmp-IsAntisymmetric m map.empty (λ q. none q ∙ sym (map.get-empty nat_cmp q))) ∙ map.len-empty nat_cmp ℕ

pub none_of : (o : Option ℕ) → (IsSome o → ⊥) → o ≡ None
none_of None f = refl
none_of (Some x) f = absurd (f refl)

one_by : (b : Bool) (x y : ℕ) → y ≡ (if b then x - 1 else x) → x ≤ (if b then 1 else 0) + y
one_by true x y e = omega arith
one_by false x y e = omega arith

other_by : (o : Option ℕ) (b : Bool) (q n : ℕ) → (q == n) ≡ b → IsSome (if b then None else o) → (q ≢ n) × IsSome o
other_by o true q n e h = cc
other_by o false q n e h = (grind (arith, common_steps), h)

pub len_one : (m : Times) (n : ℕ) → map.len m ≤ (if is_some (map.get m n) then 1 else 0) + map.len (map.remove m n)
len_one m n = one_by (is_some (map.get m n)) (map.len m) (map.len (map.remove m n)) (map.len-remove nat_cmp_total m n)

-- the entries lie in a range, and each has a request to come
pub record AreWithin (s : Settings) (v : Sight) (m : Times) (n count : ℕ) : Type 0 where
  pub fact : (q : ℕ) → IsSome (map.get m q) → (n ≤ q) × (q < n + count) × (is_some (pending s v q) ≡ true)

pub get_other : (m : Times) (n q : ℕ) → IsSome (map.get (map.remove m n) q) → (q ≢ n) × IsSome (map.get m q)
get_other m n q e =
    let is : map.get (map.remove m n) q ≡ (if q == n then None else map.get m q) = map.get-remove nat_cmp_total m n q ∙ ap (λ (b : Bool). if b then None else map.get m q) (unsigned_tied q n) in
    other_by (map.get m q) (q == n) q n refl (subst (λ (o : Option ℕ). IsSome o) is e)

fewer : (s : Settings) (v : Sight) (m : Times) (n count : ℕ) → AreWithin s v m n (suc count) → AreWithin s v (map.remove m n) (n + 1) count
fewer s v m n count w =
    record {
      fact = λ q e.
          let x : (q ≢ n) × IsSome (map.get m q) = get_other m n q e in
          let f : (n ≤ q) × (q < n + suc count) × (is_some (pending s v q) ≡ true) = w.fact q x.1 in
          (omega (arith, x.0, f.0), omega (arith, f.1), f.2);
    }

some_set : (o p : Option ℕ) (rest all : ℕ) → (IsSome o → is_some p ≡ true) → rest ≤ all → (if is_some o then 1 else 0) + rest ≤ (if is_some p then 1 else 0) + all
some_set None p rest all f le = split (λ (x : ℕ). 0 + rest ≤ x + all) (is_some p) 1 0 (λ _. omega arith) (λ _. omega arith)
some_set (Some x) p rest all f le = rw (f refl) (omega arith)

pub len_within : (s : Settings) (v : Sight) (m : Times) (n count : ℕ) → AreWithin s v m n count → map.len m ≤ sets_from s v n count
len_within s v m n zero w = let none : map.len m ≡ 0 = no_keys m (λ q. none_of (map.get m q) (λ e. let f = w.fact q e in omega (arith, f.0, f.1))) in omega arith
len_within s v m n (suc count) w =
    let rest : map.len (map.remove m n) ≤ sets_from s v (n + 1) count = len_within s v (map.remove m n) (n + 1) count (fewer s v m n count w) in
    let all : (if is_some (map.get m n) then 1 else 0) + map.len (map.remove m n) ≤ sets_from s v n (suc count) = some_set (map.get m n) (pending s v n) (map.len (map.remove m n)) (sets_from s v (n + 1) count) (λ e. (w.fact n e).2) rest in
    omega (arith, len_one m n, all)

-- ---- timers of a state

low_by : (s : State) (o : Option ℕ) → s.span.next ≡ o → IsBounded s → low (state_sight s) o ≤ unwrap_or s.span.top 0 + 1
low_by s None e b = omega (arith, b.least_top)
low_by s (Some n) e b = b.next_top n e

-- the lowest number is at most one past the greatest
pub low_top : (s : State) → IsBounded s → low (state_sight s) s.span.next ≤ unwrap_or s.span.top 0 + 1
low_top s b = low_by s s.span.next refl b

-- a timer is of a number from the lowest one to the one after the greatest
pub record InRange (s : State) (q : ℕ) : Type 0 where
  pub from : low (state_sight s) s.span.next ≤ q
  pub to : q ≤ unwrap_or s.span.top 0 + 1
  pub pends : is_some (pending s.settings (state_sight s) q) ≡ true

to_by : (s : State) (q t : ℕ) → pending s.settings (state_sight s) q ≡ Some t → q ≤ unwrap_or s.span.top 0 + 1
to_by s q t e =
    elim (nat_le q (unwrap_or s.span.top 0 + 1)) as (λ b. nat_le q (unwrap_or s.span.top 0 + 1) ≡ b → q ≤ unwrap_or s.span.top 0 + 1) [
      | true ↦ λ f. grind (arith, common_steps)
      | false ↦ λ f. absurd (let none : pending s.settings (state_sight s) q ≡ None = pending_above s.settings (state_sight s) q (grind (arith, common_steps)) in cc)
    ] refl

range_by : (s : State) (m : Times) (q : ℕ) (o : Option ℕ) → map.get m q ≡ o → AreTimers s m → IsSome o → InRange s q
range_by s m q None e h is = cc
range_by s m q (Some t) e h is =
    let x : (low (state_sight s) s.span.next ≤ q) × (pending s.settings (state_sight s) q ≡ Some t) = (h q).some t e in
    record { from = x.0; to = to_by s q t x.1; pends = ap is_some x.1 }

pub in_range : (s : State) (m : Times) (q : ℕ) → AreTimers s m → IsSome (map.get m q) → InRange s q
in_range s m q h e = range_by s m q (map.get m q) refl h e

pub few_timers : (s : State) (m : Times) → IsBounded s → AreTimers s m → map.len m ≤ state_gaps s + 1
few_timers s m b h =
    let within : AreWithin s.settings (state_sight s) m (low (state_sight s) s.span.next) (unwrap_or s.span.top 0 + 2 - low (state_sight s) s.span.next) =
    record { fact = λ q e. let x : InRange s q = in_range s m q h e in (x.from, omega (arith, x.from, x.to), x.pends) } in
    omega (arith, len_within s.settings (state_sight s) m (low (state_sight s) s.span.next) (unwrap_or s.span.top 0 + 2 - low (state_sight s) s.span.next) within, sets_gaps s.settings (state_sight s) (low (state_sight s) s.span.next) (low_top s b))

pub missing_most : (among : ℕ → Bool) (n count : ℕ) → missing_from among n count ≤ count
missing_most among n zero = omega arith
missing_most among n (suc count) = split (λ (x : ℕ). x + missing_from among (n + 1) count ≤ suc count) (among n) 0 1 (λ _. omega (arith, missing_most among (n + 1) count)) (λ _. omega (arith, missing_most among (n + 1) count))

pub few_gaps : (s : State) → IsBounded s → state_gaps s ≤ 8191
few_gaps s b = omega (arith, near s b, missing_most (state_sight s).among (low (state_sight s) s.span.next) (unwrap_or s.span.top 0 - low (state_sight s) s.span.next))

-- ---- steps

-- few timers take few steps
pub quick : (old new : Times) (before after : ℕ) → map.len old ≤ 8194 → map.len new ≤ 8195 → IsQuick old new before after → after ≤ before + 14
quick old new before after a b q =
    elim (nat_le after (before + 14)) as (λ c. nat_le after (before + 14) ≡ c → after ≤ before + 14) [
      | true ↦ λ e. grind (arith, common_steps)
      | false ↦ λ e.
          let more : before + 15 ≤ after = grind (arith, common_steps) in
          let far : 15 ≤ after - before = omega arith in
          let great : 2 ^ 15 ≤ 2 ^ (after - before) = pow-le-pow_right {n = 2} (omega arith) far in
          absurd (omega (arith, great, q, a, b))
    ] refl

plus_by : (b : Bool) (x y : ℕ) → y ≡ (if b then x else x + 1) → y ≤ x + 1
plus_by true x y e = omega arith
plus_by false x y e = omega arith

less_by : (b : Bool) (x y : ℕ) → y ≡ (if b then x - 1 else x) → y ≤ x
less_by true x y e = omega arith
less_by false x y e = omega arith

-- a set or a removal changes the count by at most one
pub len_insert : (m : Times) (n t : ℕ) → map.len (map.insert m n t) ≤ map.len m + 1
len_insert m n t = plus_by (is_some (map.get m n)) (map.len m) (map.len (map.insert m n t)) (map.len-insert nat_cmp_total m n t)

pub len_remove : (m : Times) (n : ℕ) → map.len (map.remove m n) ≤ map.len m
len_remove m n = less_by (is_some (map.get m n)) (map.len m) (map.len (map.remove m n)) (map.len-remove nat_cmp_total m n)

some_by : (x : ℕ) → (x ≡ 0 → ⊥) → 0 < x
some_by zero f = absurd (f refl)
some_by (suc x) f = omega arith

no_entry : (m : Times) (n t : ℕ) → map.get m n ≡ Some t → m ≡ map.empty → ⊥
no_entry m n t e f = let none : map.get m n ≡ None = ap (λ (x : Times). map.get x n) f ∙ map.get-empty nat_cmp n in cc

pub len_gone : (m : Times) (n t : ℕ) → map.get m n ≡ Some t → map.len (map.remove m n) ≡ map.len m - 1
len_gone m n t e = map.len-remove nat_cmp_total m n ∙ rw e refl

pub some_len : (m : Times) (n t : ℕ) → map.get m n ≡ Some t → 0 < map.len m
some_len m n t e = some_by (map.len m) (λ f. no_entry m n t e (map.empty_of_len m f))

-- ---- numbers that have timers have a place each

pub has_room : (s : State) (m : Timers) (n : ℕ) → IsBounded s → m.room ≡ 16384 → ((q : ℕ) → IsSome (map.get m.times q) → (low (state_sight s) s.span.next ≤ q) × (q ≤ unwrap_or s.span.top 0 + 1)) → low (state_sight s) s.span.next ≤ n → n ≤ unwrap_or s.span.top 0 + 1 → HasRoom m n
has_room s m n b room within from to = λ q e place.
    let x : (low (state_sight s) s.span.next ≤ q) × (q ≤ unwrap_or s.span.top 0 + 1) = within q e in
    apart (low (state_sight s) s.span.next) q n x.0 from (omega (arith, near s b, x.1)) (omega (arith, near s b)) (subst (λ (r : ℕ). q % r ≡ n % r) room place)

-- ---- all timers set anew, from the greatest number down

-- what the timers are once those from n on were set
abbrev pub SetFrom : Settings → Sight → ℕ → Times → Type 0
SetFrom s v n m = (q : ℕ) → map.get m q ≡ (if nat_le n q then pending s v q else None)

pub set_none : (s : Settings) (v : Sight) → SetFrom s v (v.top + 2) map.empty
set_none s v q =
    map.get-empty nat_cmp q ∙ elim (nat_le (v.top + 2) q) as (λ b. nat_le (v.top + 2) q ≡ b → None ≡ (if b then pending s v q else None)) [
      | true ↦ λ e. sym (pending_above s v q (grind (arith, common_steps)))
      | false ↦ λ _. refl
    ] refl

order_by : (n q : ℕ) → 0 < n → q ≢ n - 1 → nat_le n q ≡ nat_le (n - 1) q
order_by n q some other =
    elim (nat_le n q) as (λ b. nat_le n q ≡ b → b ≡ nat_le (n - 1) q) [
      | true ↦ λ e. let there : nat_le (n - 1) q ≡ true = grind (arith, common_steps) in sym there
      | false ↦ λ e. let there : nat_le (n - 1) q ≡ false = grind (arith, common_steps) in sym there
    ] refl

none_here : (n q : ℕ) (f : ℕ → Option ℕ) → 0 < n → f (n - 1) ≡ None → (if nat_le n q then f q else None) ≡ (if nat_le (n - 1) q then f q else None)
none_here n q f some e =
    elim (q == n - 1) as (λ b. (q == n - 1) ≡ b → (if nat_le n q then f q else None) ≡ (if nat_le (n - 1) q then f q else None)) [
      | true ↦ λ same. let is : q ≡ n - 1 = grind (arith, common_steps) in
          let none : f q ≡ None = ap f is ∙ e in
          rw none (same_if (nat_le n q) None ∙ sym (same_if (nat_le (n - 1) q) None))
      | false ↦ λ other. ap (λ (b : Bool). if b then f q else None) (order_by n q some (grind (arith, common_steps)))
    ] refl

here_or_above : (n q : ℕ) (x : Option ℕ) (f : ℕ → Option ℕ) → 0 < n → f (n - 1) ≡ x → (if q == n - 1 then x else if nat_le n q then f q else None) ≡ (if nat_le (n - 1) q then f q else None)
here_or_above n q x f some e =
    elim (q == n - 1) as (λ b. (q == n - 1) ≡ b → (if b then x else if nat_le n q then f q else None) ≡ (if nat_le (n - 1) q then f q else None)) [
      | true ↦ λ same. let is : q ≡ n - 1 = grind (arith, common_steps) in let there : nat_le (n - 1) q ≡ true = grind (arith, common_steps) in rw there (sym e ∙ ap f (sym is))
      | false ↦ λ other. let both : nat_le n q ≡ nat_le (n - 1) q = order_by n q some (grind (arith, common_steps)) in ap (λ (b : Bool). if b then f q else None) both
    ] refl

pub set_one : (s : Settings) (v : Sight) (n t : ℕ) (m : Times) → 0 < n → pending s v (n - 1) ≡ Some t → SetFrom s v n m → SetFrom s v (n - 1) (map.insert m (n - 1) t)
set_one s v n t m some e h q =
    map.get-insert nat_cmp_total m (n - 1) t q
    ∙ ap (λ (b : Bool). if b then Some t else map.get m q) (unsigned_tied q (n - 1))
    ∙ ap (λ (o : Option ℕ). if q == n - 1 then Some t else o) (h q)
    ∙ here_or_above n q (Some t) (pending s v) some e

pub set_not : (s : Settings) (v : Sight) (n : ℕ) (m : Times) → 0 < n → pending s v (n - 1) ≡ None → SetFrom s v n m → SetFrom s v (n - 1) m
set_not s v n m some e h q =
    h q ∙ none_here n q (pending s v) some e

set_by : (s : State) (n : ℕ) (g : Option ℕ) (b : Bool) → nat_le (low (state_sight s) s.span.next) n ≡ b → g ≡ (if b then pending s.settings (state_sight s) n else None) → IsTimer s.settings (state_sight s) (low (state_sight s) s.span.next) n g
set_by s n g true e is = record { some = λ t f. (grind (arith, common_steps), sym is ∙ f); none = λ f _ _. sym is ∙ f }
set_by s n g false e is = record { some = λ t f. (let bad : None ≡ Some t = sym is ∙ f in cc); none = λ f from _. absurd (grind (arith, common_steps)) }

pub set_all : (s : State) (m : Times) → SetFrom s.settings (state_sight s) (low (state_sight s) s.span.next) m → AreTimers s m
set_all s m h n = set_by s n (map.get m n) (nat_le (low (state_sight s) s.span.next) n) refl (h n)

pub sets_down : (s : Settings) (v : Sight) (n end : ℕ) → 0 < n → n ≤ end → sets_from s v (n - 1) (end - (n - 1)) ≡ (if is_some (pending s v (n - 1)) then 1 else 0) + sets_from s v n (end - n)
sets_down s v n end some le =
    let count : end - (n - 1) ≡ suc (end - n) = omega arith in
    let next : n - 1 + 1 ≡ n = omega arith in
    rw count (ap (λ (m : ℕ). (if is_some (pending s v (n - 1)) then 1 else 0) + sets_from s v m (end - n)) next)

sets_some : (s : Settings) (v : Sight) (n end t : ℕ) → 0 < n → n ≤ end → pending s v (n - 1) ≡ Some t → sets_from s v (n - 1) (end - (n - 1)) ≡ 1 + sets_from s v n (end - n)
sets_some s v n end t some le e = sets_down s v n end some le ∙ rw e refl

sets_none : (s : Settings) (v : Sight) (n end : ℕ) → 0 < n → n ≤ end → pending s v (n - 1) ≡ None → sets_from s v (n - 1) (end - (n - 1)) ≡ 0 + sets_from s v n (end - n)
sets_none s v n end some le e = sets_down s v n end some le ∙ rw e refl

-- where nothing is requested again no timers are right
pub no_timers : (s : State) (m : Times) → s.settings.rtx ≡ false → m ≡ map.empty → AreTimers s m
no_timers s m e is n =
    let none : map.get m n ≡ None = ap (λ (x : Times). map.get x n) is ∙ map.get-empty nat_cmp n in
    record { some = λ t f. (let bad : None ≡ Some t = sym none ∙ f in cc); none = λ _ _ _. none_pending s.settings (state_sight s) n e }

-- while they are set: those from n on were
pub record Setting (s : State) (low n : ℕ) (q : Timers) (before after : ℕ) : Type 0 where
  pub from : low ≤ n
  pub to : n ≤ unwrap_or s.span.top 0 + 2
  pub room : q.room ≡ 16384
  pub set : SetFrom s.settings (state_sight s) n q.times
  pub few : map.len q.times ≤ sets_from s.settings (state_sight s) n (unwrap_or s.span.top 0 + 2 - n)
  pub quick : after ≤ before + 14 * sets_from s.settings (state_sight s) n (unwrap_or s.span.top 0 + 2 - n)

pub setting_first : (s : State) (low n before room : ℕ) (q : Timers) → low ≤ unwrap_or s.span.top 0 + 1 → n ≡ unwrap_or s.span.top 0 + 2 → room ≡ 16384 → q ≡ record { room = room; times = map.empty; heap = [] } → Setting s low n q before before
setting_first s low n before room q le is sixteen e =
    record {
      from = omega arith;
      to = omega arith;
      room = ap (λ (x : Timers). x.room) e ∙ sixteen;
      set = rw (e, is) (set_none s.settings (state_sight s));
      few = rw e (omega (arith, map.len-empty nat_cmp ℕ));
      quick = omega arith;
    }

pub setting_some : (s : State) (low n t before between after : ℕ) (q r : Timers) → IsBounded s → low ≤ n - 1 → 0 < n → pending s.settings (state_sight s) (n - 1) ≡ Some t → low ≡ low_of (state_sight s) s.span.next → Setting s low n q before between → r ≡ record { room = q.room; times = map.insert q.times (n - 1) t; heap = r.heap } → IsQuick q.times r.times between after → Setting s low (n - 1) r before after
setting_some s low n t before between after q r b from some e is x f y =
    let all : sets_from s.settings (state_sight s) (n - 1) (unwrap_or s.span.top 0 + 2 - (n - 1)) ≡ 1 + sets_from s.settings (state_sight s) n (unwrap_or s.span.top 0 + 2 - n) = sets_some s.settings (state_sight s) n (unwrap_or s.span.top 0 + 2) t some x.to e in
    let most : sets_from s.settings (state_sight s) n (unwrap_or s.span.top 0 + 2 - n) ≤ unwrap_or s.span.top 0 + 2 - n = sets_most s.settings (state_sight s) n (unwrap_or s.span.top 0 + 2 - n) in
    let times : r.times ≡ map.insert q.times (n - 1) t = ap (λ (z : Timers). z.times) f in
    let one_more : map.len r.times ≤ map.len q.times + 1 = rw times (len_insert q.times (n - 1) t) in
    let near : unwrap_or s.span.top 0 < low + 8192 = rw is (near s b) in
    let few : map.len q.times ≤ 8194 = omega (arith, x.few, x.from) in
    let step : after ≤ between + 14 = quick q.times r.times between after few (omega arith) y in
    record {
      from = from;
      to = omega (arith, x.to);
      room = ap (λ (z : Timers). z.room) f ∙ x.room;
      set = rw times (set_one s.settings (state_sight s) n t q.times some e x.set);
      few = omega (arith, all, one_more, x.few);
      quick = omega (arith, all, step, x.quick);
    }

pub setting_none : (s : State) (low n before after : ℕ) (q : Timers) → low ≤ n - 1 → 0 < n → pending s.settings (state_sight s) (n - 1) ≡ None → Setting s low n q before after → Setting s low (n - 1) q before after
setting_none s low n before after q from some e x =
    let all : sets_from s.settings (state_sight s) (n - 1) (unwrap_or s.span.top 0 + 2 - (n - 1)) ≡ 0 + sets_from s.settings (state_sight s) n (unwrap_or s.span.top 0 + 2 - n) = sets_none s.settings (state_sight s) n (unwrap_or s.span.top 0 + 2) some x.to e in
    record { from = from; to = omega (arith, x.to); room = x.room; set = set_not s.settings (state_sight s) n q.times some e x.set; few = omega (arith, all, x.few); quick = omega (arith, all, x.quick) }

pub setting_last : (s : State) (low n before after : ℕ) (q : Timers) → IsBounded s → low ≡ low_of (state_sight s) s.span.next → n ≤ low → Setting s low n q before after → AreTimers s q.times × (after ≤ before + 14 * (state_gaps s + 1))
setting_last s low n before after q b is le x =
    let at : n ≡ low_of (state_sight s) s.span.next = omega (arith, x.from) in
    let gaps : sets_from s.settings (state_sight s) (low_of (state_sight s) s.span.next) (unwrap_or s.span.top 0 + 2 - low_of (state_sight s) s.span.next) ≤ state_gaps s + 1 = sets_gaps s.settings (state_sight s) (low_of (state_sight s) s.span.next) (low_top s b) in
    let quick : after ≤ before + 14 * sets_from s.settings (state_sight s) (low_of (state_sight s) s.span.next) (unwrap_or s.span.top 0 + 2 - low_of (state_sight s) s.span.next) = subst (λ (m : ℕ). after ≤ before + 14 * sets_from s.settings (state_sight s) m (unwrap_or s.span.top 0 + 2 - m)) at x.quick in
    (set_all s q.times (subst (λ (m : ℕ). SetFrom s.settings (state_sight s) m q.times) at x.set), omega (arith, gaps, quick))
