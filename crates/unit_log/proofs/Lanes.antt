-- The joinings of the lanes, one by one.
use Rattle.std.proofs.Common.{◌≡◌, ◌≢◌, ◌∙◌, ◌<◌, ◌≤◌, ℕ, zero, suc, ◌+◌, Bool, true, false, cond, List, [], ◌∷◌, ◌++◌, length, get_or, set, Option, Some, None, refl, sym, ap, subst, arith}
use Rattle.std.specs.Prelude.{◌==◌, slice_get}
use Rattle.std.proofs.lemmas.Bool.Decides.{nat_tests}
use Rattle.depay.specs.declared.outcome.Format.{Format}
use Rattle.depay.specs.Fragments.{Call}
use Rattle.depay.specs.Joining.{Joining, StandsFor}
use Rattle.unit_log.specs.Standing.{WasGiven, WereGiven, calls_with}

-- ---- one more joining, which was given nothing

pushed_at : (format : Format) (calls : List Call) (xs : List Joining) (k : ℕ) (d : Joining)
    → StandsFor d format [] → WasGiven format calls (slice_get xs k)
    → WasGiven format calls (slice_get (xs ++ d ∷ []) k)
pushed_at format calls [] zero d fresh was =
    subst (λ (cs : List Call). StandsFor d format cs) (sym was) fresh
pushed_at format calls [] (suc k) d fresh was = was
pushed_at format calls (x ∷ xs) zero d fresh was = was
pushed_at format calls (x ∷ xs) (suc k) d fresh was = pushed_at format calls xs k d fresh was

pub pushed : (format : Format) (calls : ℕ → List Call) (xs : List Joining) (d : Joining)
    → StandsFor d format [] → WereGiven format calls xs → WereGiven format calls (xs ++ d ∷ [])
pushed format calls xs d fresh were = λ k. pushed_at format (calls k) xs k d fresh (were k)

-- ---- one joining was given one call more

pub slice_get-here : (xs : List Joining) (i : ℕ) (d : Joining) → i < length xs
    → slice_get xs i ≡ Some (get_or xs i d)
slice_get-here [] i d lt = absurd (omega (arith, lt))
slice_get-here (x ∷ xs) zero d lt = refl
slice_get-here (x ∷ xs) (suc i) d lt = slice_get-here xs i d (omega (arith, lt))

slice_get-set : (xs : List Joining) (i : ℕ) (d : Joining) → i < length xs
    → slice_get (set xs i d) i ≡ Some d
slice_get-set [] i d lt = absurd (omega (arith, lt))
slice_get-set (x ∷ xs) zero d lt = refl
slice_get-set (x ∷ xs) (suc i) d lt = slice_get-set xs i d (omega (arith, lt))

slice_get-other : (xs : List Joining) (i k : ℕ) (d : Joining) → (i ≡ k → ⊥)
    → slice_get (set xs i d) k ≡ slice_get xs k
slice_get-other [] i k d ne = refl
slice_get-other (x ∷ xs) zero zero d ne = absurd (ne refl)
slice_get-other (x ∷ xs) zero (suc k) d ne = refl
slice_get-other (x ∷ xs) (suc i) zero d ne = refl
slice_get-other (x ∷ xs) (suc i) (suc k) d ne =
    slice_get-other xs i k d (λ e. ne (ap (λ (n : ℕ). suc n) e))

pub was_here : (format : Format) (calls : ℕ → List Call) (xs : List Joining) (i : ℕ) (d : Joining)
    → i < length xs → WereGiven format calls xs → StandsFor (get_or xs i d) format (calls i)
was_here format calls xs i d lt were =
    subst (λ (o : Option Joining). WasGiven format (calls i) o) (slice_get-here xs i d lt) (were i)

given_by_test : (format : Format) (call : Call) (calls : ℕ → List Call) (xs : List Joining) (i k : ℕ)
    (d : Joining) (here : Bool) → (i == k) ≡ here → i < length xs
    → StandsFor d format (call ∷ calls i) → WereGiven format calls xs
    → WasGiven format (cond here (call ∷ calls k) (calls k)) (slice_get (set xs i d) k)
given_by_test format call calls xs i k d true e lt stands were =
    let same : i ≡ k = grind (arith, nat_tests) in
    subst (λ (n : ℕ). WasGiven format (call ∷ calls n) (slice_get (set xs i d) n)) same
    (subst (λ (o : Option Joining). WasGiven format (call ∷ calls i) o)
    (sym (slice_get-set xs i d lt)) stands)
given_by_test format call calls xs i k d false e lt stands were =
    let other : i ≡ k → ⊥ = λ same. grind (arith, nat_tests) in
    subst (λ (o : Option Joining). WasGiven format (calls k) o)
    (sym (slice_get-other xs i k d other)) (were k)

pub given_more : (format : Format) (call : Call) (calls : ℕ → List Call) (xs : List Joining) (i : ℕ)
    (d : Joining) → i < length xs → StandsFor d format (call ∷ calls i) → WereGiven format calls xs
    → WereGiven format (calls_with i call calls) (set xs i d)
given_more format call calls xs i d lt stands were =
    λ k. given_by_test format call calls xs i k d (i == k) refl lt stands were

-- ---- calls that are the same

pub were_same : (format : Format) (calls others : ℕ → List Call) (xs : List Joining)
    → ((k : ℕ) → calls k ≡ others k) → WereGiven format calls xs → WereGiven format others xs
were_same format calls others xs same were =
    λ k. subst (λ (cs : List Call). WasGiven format cs (slice_get xs k)) (same k) (were k)
