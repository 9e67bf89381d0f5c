-- What holds of each element of a list, and sums over lists.
use Rattle.std.proofs.Common.{ℕ, ◌≡◌, ◌+◌, ◌≤◌, Bool, true, false, cond, refl, sym, subst, List, [], ◌∷◌, ◌++◌, length, arith}
use Rattle.std.specs.Prelude.{reverse, map, filter, flat_map}
use Rattle.std.specs.List.{AllByRecursion}
use Rattle.std.proofs.lemmas.List.{reverse-append}

module _ {A : Type 0} (P : A → Type 0) where
  pub each_append : (xs ys : List A) → AllByRecursion P xs → AllByRecursion P ys → AllByRecursion P (xs ++ ys)
  each_append [] ys h k = k
  each_append (x ∷ xs) ys h k = (h.0, each_append xs ys h.1 k)

  pub each_reverse : (xs : List A) → AllByRecursion P xs → AllByRecursion P (reverse xs)
  each_reverse [] h = h
  each_reverse (x ∷ xs) h = subst (AllByRecursion P) (sym (reverse-append (x ∷ []) xs)) (each_append (reverse xs) (x ∷ []) (each_reverse xs h.1) (h.0, tt))

  each_if : (b : Bool) (x : A) (xs : List A) → P x → AllByRecursion P xs → AllByRecursion P (cond b (x ∷ xs) xs)
  each_if true x xs p h = (p, h)
  each_if false x xs p h = h

  pub each_filter : (test : A → Bool) (xs : List A) → AllByRecursion P xs → AllByRecursion P (filter test xs)
  each_filter test [] h = tt
  each_filter test (x ∷ xs) h = each_if (test x) x (filter test xs) h.0 (each_filter test xs h.1)

module _ {A X : Type 0} (P : A → Type 0) (Q : X → Type 0) where
  pub each_map : (f : X → A) → ((x : X) → Q x → P (f x)) → (xs : List X) → AllByRecursion Q xs → AllByRecursion P (map f xs)
  each_map f g [] h = tt
  each_map f g (x ∷ xs) h = (g x h.0, each_map f g xs h.1)

  pub each_flat : (f : X → List A) → ((x : X) → Q x → AllByRecursion P (f x)) → (xs : List X) → AllByRecursion Q xs → AllByRecursion P (flat_map f xs)
  each_flat f g [] h = tt
  each_flat f g (x ∷ xs) h = each_append P (f x) (flat_map f xs) (g x h.0) (each_flat f g xs h.1)

abbrev pub IsAny : {A : Type 0} → A → Type 0
IsAny x = Unit {0}

pub any_each : {A : Type 0} (xs : List A) → AllByRecursion IsAny xs
any_each [] = tt
any_each (x ∷ xs) = (tt, any_each xs)

-- ---- sums

abbrev pub total : {A : Type 0} → (A → ℕ) → List A → ℕ
total w [] = 0
total w (x ∷ xs) = w x + total w xs

module _ {A : Type 0} (w : A → ℕ) where
  pub total_append : (xs ys : List A) → total w (xs ++ ys) ≡ total w xs + total w ys
  total_append [] ys = omega arith
  total_append (x ∷ xs) ys = omega (arith, total_append xs ys)

  pub total_zero : ((x : A) → w x ≡ 0) → (xs : List A) → total w xs ≡ 0
  total_zero f [] = refl
  total_zero f (x ∷ xs) = omega (arith, f x, total_zero f xs)

  pub total_one : ((x : A) → w x ≡ 1) → (xs : List A) → total w xs ≡ length xs
  total_one f [] = refl
  total_one f (x ∷ xs) = omega (arith, f x, total_one f xs)

  pub total_at_most : ((x : A) → w x ≤ 1) → (xs : List A) → total w xs ≤ length xs
  total_at_most f [] = omega arith
  total_at_most f (x ∷ xs) = omega (arith, f x, total_at_most f xs)

  pub total_map : {X : Type 0} (f : X → A) (xs : List X) → total w (map f xs) ≡ total (λ x. w (f x)) xs
  total_map f [] = refl
  total_map f (x ∷ xs) = omega (arith, total_map f xs)

  pub total_flat : {X : Type 0} (v : X → ℕ) (f : X → List A) → ((x : X) → total w (f x) ≤ v x) → (xs : List X) → total w (flat_map f xs) ≤ total v xs
  total_flat v f g [] = omega arith
  total_flat v f g (x ∷ xs) = omega (arith, g x, total_flat v f g xs, total_append (f x) (flat_map f xs))
