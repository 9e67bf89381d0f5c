-- The first of a list that passes a test.
use Rattle.std.proofs.Common.{◌≡◌, ◌<◌, ℕ, suc, ◌+◌, Bool, true, false, cond, List, [], ◌∷◌, length, get_or, drop, Option, Some, None, refl, sym, ap, ◌∙◌, drop-cons, add-one}
use Rattle.std.specs.Prelude.{find}

module _ {X : Type 0} (p : X → Bool) where
  at_front : (xs : List X) (i : ℕ) (x : X) → i < length xs → x ≡ get_or xs i x → drop i xs ≡ x ∷ drop (i + 1) xs
  at_front xs i x lt at = rw add-one (drop-cons xs i x lt ∙ ap (λ (y : X). y ∷ drop (suc i) xs) (sym at))

  pub found_here : (xs : List X) (i : ℕ) (x : X) → i < length xs → x ≡ get_or xs i x → p x ≡ true → find p (drop i xs) ≡ Some x
  found_here xs i x lt at passes = ap (find p) (at_front xs i x lt at) ∙ ap (λ (b : Bool). cond b (Some x) (find p (drop (i + 1) xs))) passes

  pub passed : (xs : List X) (i : ℕ) (x : X) → i < length xs → x ≡ get_or xs i x → p x ≡ false → find p (drop (i + 1) xs) ≡ find p (drop i xs)
  passed xs i x lt at fails = sym (ap (find p) (at_front xs i x lt at) ∙ ap (λ (b : Bool). cond b (Some x) (find p (drop (i + 1) xs))) fails)
