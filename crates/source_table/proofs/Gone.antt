-- The sources that are gone, one entry more.
use Rattle.std.proofs.Common.{◌≡◌, ℕ, zero, suc, ◌+◌, ◌<◌, Bool, true, false, cond, List, [], ◌∷◌, ◌++◌, length, get_or, take, map, filter, Some, refl, ap, ◌∙◌, arith, slice_get}
use Rattle.std.proofs.lemmas.List.{take_more, map-append, append-nil}
use Rattle.source_table.specs.declared.source.Source.{Source}

pushed : (b : Bool) (y : ℕ × Source) (all front back : List (ℕ × Source)) → all ≡ front ++ back → cond b (y ∷ all) all ≡ cond b (y ∷ front) front ++ back
pushed true y all front back e = ap (λ (xs : List (ℕ × Source)). y ∷ xs) e
pushed false y all front back e = e

filter_push : (p : ℕ × Source → Bool) (xs : List (ℕ × Source)) (x : ℕ × Source) → filter p (xs ++ x ∷ []) ≡ filter p xs ++ cond (p x) (x ∷ []) []
filter_push p [] x = refl
filter_push p (y ∷ ys) x = pushed (p y) y (filter p (ys ++ x ∷ [])) (filter p ys) (cond (p x) (x ∷ []) []) (filter_push p ys x)

pub at_get : (xs : List (ℕ × Source)) (i : ℕ) (x : ℕ × Source) → slice_get xs i ≡ Some x → (i < length xs) × (get_or xs i x ≡ x)
at_get [] i x e = absurd cc
at_get (y ∷ ys) zero x e = let same : y ≡ x = cc in (omega arith, same)
at_get (y ∷ ys) (suc i) x e = let rest = at_get ys i x e in (omega (arith, rest.0), rest.1)

one_more : (p : ℕ × Source → Bool) (es : List (ℕ × Source)) (i : ℕ) (e : ℕ × Source) → slice_get es i ≡ Some e → filter p (take (i + 1) es) ≡ filter p (take i es) ++ cond (p e) (e ∷ []) []
one_more p es i e at =
    let there = at_get es i e at in
    ap (filter p) (take_more es i e there.0 ∙ ap (λ (x : ℕ × Source). take i es ++ x ∷ []) there.1) ∙ filter_push p (take i es) e

pub gone_more : (p : ℕ × Source → Bool) (es : List (ℕ × Source)) (i : ℕ) (e : ℕ × Source) → slice_get es i ≡ Some e → p e ≡ true → map (λ x. x.0) (filter p (take (i + 1) es)) ≡ map (λ x. x.0) (filter p (take i es)) ++ e.0 ∷ []
gone_more p es i e at b = ap (map (λ x. x.0)) (one_more p es i e at ∙ ap (λ (c : Bool). filter p (take i es) ++ cond c (e ∷ []) []) b) ∙ map-append (λ x. x.0) (filter p (take i es)) (e ∷ [])

pub gone_same : (p : ℕ × Source → Bool) (es : List (ℕ × Source)) (i : ℕ) (e : ℕ × Source) → slice_get es i ≡ Some e → p e ≡ false → map (λ x. x.0) (filter p (take (i + 1) es)) ≡ map (λ x. x.0) (filter p (take i es))
gone_same p es i e at b = ap (map (λ x. x.0)) (one_more p es i e at ∙ ap (λ (c : Bool). filter p (take i es) ++ cond c (e ∷ []) []) b ∙ append-nil (filter p (take i es)))
