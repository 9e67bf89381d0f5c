-- Lists that are filtered and counted.
use Rattle.std.proofs.Common.{◌+◌, ◌≡◌, refl, ap, ◌∙◌, arith, Bool, true, false, List, [], ◌∷◌, ◌++◌}
use Rattle.std.specs.Prelude.{length, filter, if◌then◌else◌}

module _ {X : Type 0} where
  filter_if : (b : Bool) (x : X) (fs gs : List X) → (if b then x ∷ (fs ++ gs) else fs ++ gs) ≡ (if b then x ∷ fs else fs) ++ gs
  filter_if true x fs gs = refl
  filter_if false x fs gs = refl

  pub filter_append : (test : X → Bool) (xs ys : List X) → filter test (xs ++ ys) ≡ filter test xs ++ filter test ys
  filter_append test [] ys = refl
  filter_append test (x ∷ xs) ys = ap (λ (l : List X). if test x then x ∷ l else l) (filter_append test xs ys) ∙ filter_if (test x) x (filter test xs) (filter test ys)

  pub length_append : (xs ys : List X) → length (xs ++ ys) ≡ length xs + length ys
  length_append [] ys = omega arith
  length_append (x ∷ xs) ys = let e : length (xs ++ ys) ≡ length xs + length ys = length_append xs ys in omega (arith, e)
