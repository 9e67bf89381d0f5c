-- The elements that pass a test, one element more.
use Rattle.std.proofs.Common.{◌≡◌, ℕ, zero, suc, ◌+◌, ◌<◌, Bool, true, false, cond, List, [], ◌∷◌}
use Rattle.std.proofs.Common.{◌++◌, length, get_or, take, Some, sym, ap, subst, ◌∙◌, arith}
use Rattle.std.proofs.Common.{slice_get}
use Rattle.std.specs.List.{filter}
use Rattle.std.proofs.lemmas.List.{append-nil}
use Rattle.std.proofs.lemmas.List.Elements.{filter_more}

at_get : {A : Type 0} (xs : List A) (i : ℕ) (x : A) → slice_get xs i ≡ Some x
    → (i < length xs) × (get_or xs i x ≡ x)
at_get [] i x e = absurd cc
at_get (y ∷ ys) zero x e = let same : y ≡ x = cc in (omega arith, same)
at_get (y ∷ ys) (suc i) x e = let rest = at_get ys i x e in (omega (arith, rest.0), rest.1)

one_more : {A : Type 0} (p : A → Bool) (xs : List A) (i : ℕ) (x : A) → slice_get xs i ≡ Some x
    → filter p (take (i + 1) xs) ≡ filter p (take i xs) ++ cond (p x) (x ∷ []) []
one_more p xs i x at =
    let there = at_get xs i x at in
    filter_more p xs i x there.0
    ∙ ap (λ (y : _). filter p (take i xs) ++ cond (p y) (y ∷ []) []) there.1

pub one_kept : {A : Type 0} (p : A → Bool) (xs : List A) (i : ℕ) (x : A) → slice_get xs i ≡ Some x
    → p x ≡ true → filter p (take (i + 1) xs) ≡ filter p (take i xs) ++ x ∷ []
one_kept p xs i x at passes =
    one_more p xs i x at ∙ ap (λ (b : Bool). filter p (take i xs) ++ cond b (x ∷ []) []) passes

pub one_passed : {A : Type 0} (p : A → Bool) (xs : List A) (i : ℕ) (x : A) → slice_get xs i ≡ Some x
    → p x ≡ false → filter p (take (i + 1) xs) ≡ filter p (take i xs)
one_passed p xs i x at fails =
    one_more p xs i x at ∙ ap (λ (b : Bool). filter p (take i xs) ++ cond b (x ∷ []) []) fails
    ∙ append-nil (filter p (take i xs))
