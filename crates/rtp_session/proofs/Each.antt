-- Facts that hold of each element of a list, and lists one element more.
use Rattle.std.proofs.Common.{◌≡◌, ◌≤◌, ◌<◌, ℕ, zero, suc, ◌+◌, List, [], ◌∷◌, ◌++◌, length, get_or, take, drop, map, refl, sym, ap, ◌∙◌, arith}
use Rattle.std.specs.List.{AllByRecursion, flat_map}
use Rattle.std.proofs.lemmas.List.{take_more, map-append}
use Rattle.std.proofs.lemmas.Grind.{flat_map-append}

module _ {X : Type 0} (P : X → Type 0) where
  pub each_at : (xs : List X) (i : ℕ) (d : X) → i < length xs → AllByRecursion P xs → P (get_or xs i d)
  each_at [] i d lt all = absurd (omega arith)
  each_at (x ∷ xs) zero d lt all = all.0
  each_at (x ∷ xs) (suc i) d lt all = each_at xs i d (omega arith) all.1

  pub each_taken : (n : ℕ) (xs : List X) → AllByRecursion P xs → AllByRecursion P (take n xs)
  each_taken zero xs all = tt
  each_taken (suc n) [] all = tt
  each_taken (suc n) (x ∷ xs) all = (all.0, each_taken n xs all.1)

  pub each_left : (n : ℕ) (xs : List X) → AllByRecursion P xs → AllByRecursion P (drop n xs)
  each_left zero xs all = all
  each_left (suc n) [] all = tt
  each_left (suc n) (x ∷ xs) all = each_left n xs all.1

  pub each_joined : (xs ys : List X) → AllByRecursion P xs → AllByRecursion P ys → AllByRecursion P (xs ++ ys)
  each_joined [] ys here there = there
  each_joined (x ∷ xs) ys here there = (here.0, each_joined xs ys here.1 there)

module _ {X A : Type 0} where
  pub flat_more : (f : X → List A) (xs : List X) (i : ℕ) (x d : X) → i < length xs → x ≡ get_or xs i d → flat_map f (take (i + 1) xs) ≡ flat_map f (take i xs) ++ f x
  flat_more f xs i x d lt at =
      ap (flat_map f) (take_more xs i d lt ∙ ap (λ (y : X). take i xs ++ y ∷ []) (sym at)) ∙ flat_map-append f (take i xs) (x ∷ []) ∙ ap (λ (l : List A). flat_map f (take i xs) ++ l) (append-end (f x))
    where
      append-end : (l : List A) → l ++ [] ≡ l
      append-end [] = refl
      append-end (y ∷ ys) = ap (λ (l : List A). y ∷ l) (append-end ys)

  pub map_more : (f : X → A) (xs : List X) (i : ℕ) (x d : X) → i < length xs → x ≡ get_or xs i d → map f (take (i + 1) xs) ≡ map f (take i xs) ++ f x ∷ []
  map_more f xs i x d lt at =
      ap (map f) (take_more xs i d lt ∙ ap (λ (y : X). take i xs ++ y ∷ []) (sym at)) ∙ map-append f (take i xs) (x ∷ [])
