-- Lists by their elements, and numbers that rise.
use Rattle.std.proofs.Common.{◌≡◌, ◌<◌, ℕ, zero, suc, List, [], ◌∷◌, length, get_or, ◌⊎◌, inl, inr, sym, subst, arith, add-one}
use Rattle.std.specs.Prelude.{Contains, slice_index}
use Rattle.std.specs.Ordering.{nat_cmp}
use Rattle.std.specs.List.{AllByRecursion}
use Rattle.std.specs.List.Sorted.{IsStrictlyIncreasing, IsStrictlySortedBy}
use Rattle.std.specs.declared.cmp.Ordering.TheVariants.{Less}
use Rattle.std.proofs.lemmas.Map.Keys.{sorted_head, sorted_tail}

-- x is one of these
abbrev pub In : {X : Type 0} → X → List X → Type 0
In x [] = ⊥
In x (y ∷ ys) = (y ≡ x) ⊎ In x ys

in_from_place : {X : Type 0} (xs : List X) (x : X) (k : ℕ) → k < length xs → get_or xs k x ≡ x → In x xs
in_from_place [] x k lt e = absurd (omega arith)
in_from_place (y ∷ ys) x zero lt e = inl e
in_from_place (y ∷ ys) x (suc k) lt e = inr (in_from_place ys x k (omega arith) e)

pub in_from : {X : Type 0} (xs : List X) (x : X) → Contains xs x → In x xs
in_from xs x h = in_from_place xs x h.0 h.1 h.2

pub contains_from : {X : Type 0} (xs : List X) (x : X) → In x xs → Contains xs x
contains_from [] x h = absurd h
contains_from (y ∷ ys) x (inl e) = (0, omega arith, e)
contains_from (y ∷ ys) x (inr h) = let rest = contains_from ys x h in (suc rest.0, omega (arith, rest.1), rest.2)

-- ---- numbers

-- each number is above this one
abbrev pub Later : ℕ → List ℕ → Type 0
Later k [] = Unit {0}
Later k (x ∷ xs) = (k < x) × Later k xs

abbrev pub Rises : List ℕ → Type 0
Rises [] = Unit {0}
Rises (x ∷ xs) = Later x xs × Rises xs

less_is : (a b : ℕ) → nat_cmp a b ≡ Less → a < b
less_is a b e = grind arith

later_from : (k : ℕ) (xs : List ℕ) → AllByRecursion (λ y. nat_cmp k y ≡ Less) xs → Later k xs
later_from k [] h = tt
later_from k (x ∷ xs) h = (less_is k x h.0, later_from k xs h.1)

pub rises_from : (xs : List ℕ) → IsStrictlySortedBy nat_cmp xs → Rises xs
rises_from [] h = tt
rises_from (x ∷ xs) h = (later_from x xs (sorted_head nat_cmp x xs h), rises_from xs (sorted_tail nat_cmp x xs h))

increases_at : (xs : List ℕ) (k : ℕ) → Rises xs → suc k < length xs → slice_index xs k < slice_index xs (suc k)
increases_at [] k h lt = absurd (omega arith)
increases_at (x ∷ []) k h lt = absurd (omega arith)
increases_at (x ∷ y ∷ ys) zero h lt = h.0.0
increases_at (x ∷ y ∷ ys) (suc k) h lt = increases_at (y ∷ ys) k h.1 (omega arith)

pub increasing_from : (xs : List ℕ) → Rises xs → IsStrictlyIncreasing xs
increasing_from xs h = λ k lt. subst (λ (j : ℕ). slice_index xs k < slice_index xs j) (sym (add-one k)) (increases_at xs k h (omega arith))
