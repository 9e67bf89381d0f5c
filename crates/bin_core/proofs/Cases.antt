-- Cases, and elements of lists.
use Rattle.std.proofs.Common.{◌≡◌, Bool, true, false, refl, ap, ◌∙◌, List, [], ◌∷◌, ◌++◌, Option, None, Some}
use Rattle.std.specs.Prelude.{◌||◌}
use Rattle.std.specs.List.{list_any}

pub by_cases : {P : Type 0} (b : Bool) → (b ≡ true → P) → (b ≡ false → P) → P
by_cases true f g = f refl
by_cases false f g = g refl

-- whether one of the elements is, or the last one
pub any_then : {A : Type 0} (f : A → Bool) (xs : List A) (x : A) → list_any f (xs ++ x ∷ []) ≡ (list_any f xs || f x)
any_then f [] x = by_either (f x)
  where
    by_either : (b : Bool) → (b || false) ≡ (false || b)
    by_either true = refl
    by_either false = refl
any_then f (y ∷ xs) x = ap (λ (b : Bool). f y || b) (any_then f xs x) ∙ by_either (f y) (list_any f xs) (f x)
  where
    by_either : (a b d : Bool) → (a || (b || d)) ≡ ((a || b) || d)
    by_either true b d = refl
    by_either false b d = refl

pub first_not : (a b : Bool) → (a || b) ≡ false → a ≡ false
first_not true b e = e
first_not false b e = refl

pub second_not : (a b : Bool) → (a || b) ≡ false → b ≡ false
second_not true b e = cc
second_not false b e = e

pub or_false : (b : Bool) → (b || false) ≡ b
or_false true = refl
or_false false = refl

pub is_none : {A : Type 0} (o : Option A) → ((x : A) → o ≡ Some x → ⊥) → o ≡ None
is_none None never = refl
is_none (Some x) never = absurd (never x refl)
