-- The kept wakes, and which of them is first.
use Rattle.std.proofs.Common.{ℕ, zero, suc, ◌≡◌, ◌≢◌, ◌<◌, ◌≤◌, Bool, true, false, refl, sym, ap, subst, ◌∙◌, List, [], ◌∷◌, ◌++◌, Option, None, Some, length, inl, inr, arith}
use Rattle.std.specs.Prelude.{◌==◌, ◌%◌, ◌⊎◌, ⊤, nat_lt, nat_le, IsSome, get_or, set, if◌then◌else◌}
use Rattle.std.specs.FinMap as map
use Rattle.std.specs.Cmp.{nat_cmp_total, unsigned_tied}
use Rattle.std.specs.Ordering.{nat_cmp}
use Rattle.std.proofs.lemmas.Grind.{common_steps}
use Rattle.jitter_timers.specs.Timers.{Timers, Times, HasRoom, IsFirst}
use Rattle.front_model.specs.declared.Opening.{Opening}
use Rattle.replay_model.specs.declared.Wake.{Wake}
use Rattle.replay_model.specs.Serving.{with_wake, first_wake}
use Rattle.lane_core.specs.declared.lane.Lane.{Lane}
use Rattle.lane_core.specs.AllLanes.{AddsLane, wakes_in}
use Rattle.bin_core.specs.declared.wakes.Wakes.{Wakes}
use Rattle.bin_core.specs.Waking.{kept_wake, wake_changed, AreWakes}
use Rattle.bin_core.proofs.Cases.{by_cases}

-- ---- timers by lane

pub low_room : (q : Timers) (lane : ℕ) → q.room ≡ 64 → lane < 64 → ((k : ℕ) → 64 ≤ k → map.get q.times k ≡ None) → HasRoom q lane
low_room q lane room lt low other there same =
    by_cases (nat_le 64 other)
    (λ e. absurd (nothing (low other (grind (arith, common_steps)))))
    (λ e. let below : other < 64 = grind (arith, common_steps) in
    let mods : other % 64 ≡ lane % 64 = subst (λ (n : ℕ). other % n ≡ lane % n) room same in
    omega (arith, mods, below, lt))
  where
    nothing : map.get q.times other ≡ None → ⊥
    nothing none = let some : IsSome {T = ℕ} None = subst (λ (o : Option ℕ). IsSome o) none there in cc

pub get_removed : (m : Times) (lane k : ℕ) → map.get (map.remove m lane) k ≡ (if k == lane then None else map.get m k)
get_removed m lane k = map.get-remove nat_cmp_total m lane k ∙ ap (λ (b : Bool). if b then None else map.get m k) (unsigned_tied k lane)

pub get_inserted : (m : Times) (lane time k : ℕ) → map.get (map.insert m lane time) k ≡ (if k == lane then Some time else map.get m k)
get_inserted m lane time k = map.get-insert nat_cmp_total m lane time k ∙ ap (λ (b : Bool). if b then Some time else map.get m k) (unsigned_tied k lane)

pub get_none : (m : Times) (k : ℕ) → m ≡ map.empty → map.get m k ≡ None
get_none m k e = ap (λ (x : Times). map.get x k) e ∙ map.get-empty nat_cmp k

-- a wake that is put in place of itself
pub unchanged : (f : ℕ → Option ℕ) (lane : ℕ) (wake : Option ℕ) (k : ℕ) → f lane ≡ wake → f k ≡ wake_changed f lane wake k
unchanged f lane wake k is =
    by_cases (k == lane)
    (λ e. let eq : k ≡ lane = grind (arith, common_steps) in ap f eq ∙ is ∙ sym (ap (λ (b : Bool). if b then wake else f k) e))
    (λ e. sym (ap (λ (b : Bool). if b then wake else f k) e))

pub past_changed : (f : ℕ → Option ℕ) (lane : ℕ) (wake : Option ℕ) (k : ℕ) → lane < 64 → 64 ≤ k → f k ≡ None → wake_changed f lane wake k ≡ None
past_changed f lane wake k lt le none =
    let other : (k == lane) ≡ false = grind (arith, common_steps) in
    ap (λ (b : Bool). if b then wake else f k) other ∙ none

-- ---- the wakes of lanes

pub wakes_same : (ls : List Lane) (n : ℕ) (b : Lane) → n < length ls → wakes_in (set ls n b) n ≡ b.wake
wakes_same [] n b lt = absurd (omega (arith, lt))
wakes_same (a ∷ ls) zero b lt = refl
wakes_same (a ∷ ls) (suc n) b lt = wakes_same ls n b (omega (arith, lt))

pub wakes_other : (ls : List Lane) (n k : ℕ) (b : Lane) → k ≢ n → wakes_in (set ls n b) k ≡ wakes_in ls k
wakes_other [] n k b ne = refl
wakes_other (a ∷ ls) zero zero b ne = absurd (ne refl)
wakes_other (a ∷ ls) zero (suc k) b ne = refl
wakes_other (a ∷ ls) (suc n) zero b ne = refl
wakes_other (a ∷ ls) (suc n) (suc k) b ne = wakes_other ls n k b (λ e. ne (ap suc e))

pub wake_here : (ls : List Lane) (n : ℕ) (l : Lane) → n < length ls → l ≡ get_or ls n l → wakes_in ls n ≡ l.wake
wake_here [] n l lt e = absurd (omega (arith, lt))
wake_here (a ∷ ls) zero l lt e = ap (λ (x : Lane). x.wake) (sym e)
wake_here (a ∷ ls) (suc n) l lt e = wake_here ls n l (omega (arith, lt)) e

wakes_past : (ls : List Lane) (k : ℕ) → length ls ≤ k → wakes_in ls k ≡ None
wakes_past [] k le = refl
wakes_past (a ∷ ls) zero le = absurd (omega (arith, le))
wakes_past (a ∷ ls) (suc k) le = wakes_past ls k (omega (arith, le))

wakes_more : (ls : List Lane) (l : Lane) (k : ℕ) → l.wake ≡ None → wakes_in (ls ++ l ∷ []) k ≡ wakes_in ls k
wakes_more [] l zero none = none
wakes_more [] l (suc k) none = refl
wakes_more (a ∷ ls) l zero none = refl
wakes_more (a ∷ ls) l (suc k) none = wakes_more ls l k none

-- one lane's wake changes
pub changed_wakes :
    (w w' : Wakes) (ls : List Lane) (n : ℕ) (b : Lane)
    → n < length ls
    → ((k : ℕ) → kept_wake w' k ≡ wake_changed (kept_wake w) n b.wake k)
    → AreWakes w ls → AreWakes w' (set ls n b)
changed_wakes w w' ls n b lt changes h k =
    by_cases (k == n)
    (λ e. let eq : n ≡ k = grind (arith, common_steps) in
    changes k ∙ ap (λ (x : Bool). if x then b.wake else kept_wake w k) e
    ∙ subst (λ (m : ℕ). b.wake ≡ wakes_in (set ls n b) m) eq (sym (wakes_same ls n b lt)))
    (λ e. let ne : k ≢ n = grind (arith, common_steps) in
    changes k ∙ ap (λ (x : Bool). if x then b.wake else kept_wake w k) e
    ∙ h k ∙ sym (wakes_other ls n k b ne))

-- a lane in the place of another one with the same wake
pub same_wakes : (w : Wakes) (ls : List Lane) (n : ℕ) (was b : Lane) → n < length ls → was ≡ get_or ls n was → b.wake ≡ was.wake → AreWakes w ls → AreWakes w (set ls n b)
same_wakes w ls n was b lt is same h =
    changed_wakes w w ls n b lt (λ k. unchanged (kept_wake w) n b.wake k (h n ∙ wake_here ls n was lt is ∙ sym same)) h

pub added_wakes : (w : Wakes) (o : Opening) (ls new : List Lane) → AddsLane o ls new → AreWakes w ls → AreWakes w new
added_wakes w o ls new adds h k =
    h k ∙ sym (wakes_more ls adds.lane k adds.wake_is) ∙ ap (λ (xs : List Lane). wakes_in xs k) (sym adds.added)

-- ---- the first wake

-- a wake that is first is a lane's
abbrev pub IsIn : (ℕ → Option ℕ) → ℕ → Option Wake → Type 0
IsIn wakes count None = ⊤
IsIn wakes count (Some w) = (w.lane < count) × (wakes w.lane ≡ Some w.time)

in_more : (wakes : ℕ → Option ℕ) (count : ℕ) (o : Option Wake) → IsIn wakes count o → IsIn wakes (suc count) o
in_more wakes count None h = tt
in_more wakes count (Some w) h = (omega (arith, h.0), h.1)

with_in : (wakes : ℕ → Option ℕ) (count : ℕ) (first : Option Wake) (o : Option ℕ) → o ≡ wakes count → IsIn wakes count first → IsIn wakes (suc count) (with_wake first count o)
with_in wakes count first None e h = in_more wakes count first h
with_in wakes count None (Some time) e h = (omega arith, sym e)
with_in wakes count (Some f) (Some time) e h =
    elim (nat_lt time f.time) as (λ b. IsIn wakes (suc count) (if b then Some (record { time = time; lane = count }) else Some f)) [
      | true ↦ (omega arith, sym e)
      | false ↦ in_more wakes count (Some f) h
    ]

pub first_in : (wakes : ℕ → Option ℕ) (count : ℕ) → IsIn wakes count (first_wake wakes count)
first_in wakes zero = tt
first_in wakes (suc l) = with_in wakes l (first_wake wakes l) (wakes l) refl (first_in wakes l)

pub first_none : (f : ℕ → Option ℕ) (n : ℕ) → ((k : ℕ) → f k ≡ None) → first_wake f n ≡ None
first_none f zero none = refl
first_none f (suc n) none = ap (λ (o : Option ℕ). with_wake (first_wake f n) n o) (none n) ∙ first_none f n none

-- no wake comes before this one
abbrev pub IsLeast : (ℕ → Option ℕ) → ℕ → ℕ → Type 0
IsLeast f t l = (k u : ℕ) → f k ≡ Some u → (t < u) ⊎ ((t ≡ u) × (l ≤ k))

not_earlier : (t u l k : ℕ) → (t < u) ⊎ ((t ≡ u) × (l ≤ k)) → nat_lt u t ≡ false
not_earlier t u l k h = elim h [ inl before ↦ grind (arith, common_steps) | inr same ↦ let is = same.0 in grind (arith, common_steps) ]

is_earlier : (t u l k : ℕ) → k < l → (t < u) ⊎ ((t ≡ u) × (l ≤ k)) → nat_lt t u ≡ true
is_earlier t u l k lt h = elim h [ inl before ↦ grind (arith, common_steps) | inr same ↦ let le = same.1 in absurd (omega arith) ]

at_last : (f : ℕ → Option ℕ) (n t : ℕ) (o : Option Wake) → IsLeast f t n → IsIn f n o → with_wake o n (Some t) ≡ Some (record { time = t; lane = n })
at_last f n t None least found = refl
at_last f n t (Some v) least found =
    ap (λ (b : Bool). if b then Some (record { time = t; lane = n }) else Some v) (is_earlier t v.time n v.lane found.0 (least v.lane v.time found.1))

-- the least pair of a time and a lane is the first wake
pub first_by : (f : ℕ → Option ℕ) (n t l : ℕ) → l < n → f l ≡ Some t → IsLeast f t l → first_wake f n ≡ Some (record { time = t; lane = l })
first_by f zero t l lt is least = absurd (omega (arith, lt))
first_by f (suc n) t l lt is least =
    by_cases (n == l)
    (λ e. let eq : n ≡ l = grind (arith, common_steps) in
    let at : f n ≡ Some t = ap f eq ∙ is in
    ap (λ (o : Option ℕ). with_wake (first_wake f n) n o) at
    ∙ at_last f n t (first_wake f n) (subst (IsLeast f t) (sym eq) least) (first_in f n)
    ∙ ap (λ (m : ℕ). Some (record { time = t; lane = m })) eq)
    (λ e. let ne : n ≢ l = grind (arith, common_steps) in
    ap (λ (o : Option Wake). with_wake o n (f n)) (first_by f n t l (omega (arith, lt, ne)) is least)
    ∙ passes (f n) refl)
  where
    passes : (o : Option ℕ) → f n ≡ o → with_wake (Some (record { time = t; lane = l })) n o ≡ Some (record { time = t; lane = l })
    passes None e = refl
    passes (Some u) e =
        ap (λ (b : Bool). if b then Some (record { time = u; lane = n }) else Some (record { time = t; lane = l })) (not_earlier t u l n (least n u e))

pub first_same : (f g : ℕ → Option ℕ) (n : ℕ) → ((k : ℕ) → k < n → f k ≡ g k) → first_wake f n ≡ first_wake g n
first_same f g zero same = refl
first_same f g (suc n) same =
    ap (λ (o : Option ℕ). with_wake (first_wake f n) n o) (same n (omega arith))
    ∙ ap (λ (o : Option Wake). with_wake o n (g n)) (first_same f g n (λ k lt. same k (omega (arith, lt))))

first_past : (f : ℕ → Option ℕ) (n m : ℕ) → n ≤ m → ((k : ℕ) → n ≤ k → f k ≡ None) → first_wake f m ≡ first_wake f n
first_past f n zero le none = ap (first_wake f) (let eq : zero ≡ n = omega (arith, le) in eq)
first_past f n (suc m) le none =
    by_cases (n == suc m)
    (λ e. let eq : suc m ≡ n = grind (arith, common_steps) in ap (first_wake f) eq)
    (λ e. let ne : n ≢ suc m = grind (arith, common_steps) in
    let below : n ≤ m = omega (arith, le, ne) in
    ap (λ (o : Option ℕ). with_wake (first_wake f m) m o) (none m below) ∙ first_past f n m below none)

-- the first of 64 kept wakes is the lanes' first one
pub first_kept : (w : Wakes) (ls : List Lane) → length ls ≤ 64 → AreWakes w ls → first_wake (kept_wake w) 64 ≡ first_wake (wakes_in ls) (length ls)
first_kept w ls few h =
    first_same (kept_wake w) (wakes_in ls) 64 (λ k _. h k) ∙ first_past (wakes_in ls) (length ls) 64 few (wakes_past ls)

-- what a queue has first
pub first_found : (w : Wakes) (time lane : ℕ) → IsFirst w.timers.times (time, lane) → Some (record { time = time; lane = lane }) ≡ first_wake (kept_wake w) 64
first_found w time lane first = sym (first_by (kept_wake w) 64 time lane below first.0 first.1)
  where
    clash : map.get w.timers.times lane ≡ None → ⊥
    clash none = let e : None ≡ Some time = sym none ∙ first.0 in cc

    below : lane < 64
    below =
        by_cases (nat_le 64 lane)
        (λ e. absurd (clash (w.low lane (grind (arith, common_steps)))))
        (λ e. grind (arith, common_steps))
