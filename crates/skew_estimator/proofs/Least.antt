-- The least of a list of differences, as one comes and one goes.
use Rattle.std.proofs.Common.{◌≡◌, ℕ, zero, suc, ◌+◌, ◌-◌, ◌<◌, ◌≤◌, List, [], ◌∷◌, ◌++◌, length, take, Some, refl, sym, ap, ◌∙◌, arith}
use Rattle.std.specs.Prelude.{ℤ, pos, slice_get, int_div, ◌≤ℤ◌}
use lib.Signed.{◌<ℤ◌}
use Rattle.std.specs.Int.{int_min}
use Rattle.std.proofs.lemmas.Int.{ints, clamps}
use Rattle.skew_model.specs.Skew.{least, least_with}
use Rattle.skew_estimator.specs.Near.{IsNear, AreNear}

min-assoc : (x y z : ℤ) → int_min x (int_min y z) ≡ int_min (int_min x y) z
min-assoc x y z = omega (arith, ints, clamps)

pub least-snoc : (x : ℤ) (ys : List ℤ) (y : ℤ) → least_with x (ys ++ y ∷ []) ≡ int_min (least_with x ys) y
least-snoc x [] y = refl
least-snoc x (z ∷ zs) y = ap (int_min x) (least-snoc z zs y) ∙ min-assoc x (least_with z zs) y

pub take-more : (xs : List ℤ) (i : ℕ) (x : ℤ) → slice_get xs i ≡ Some x → take (suc i) xs ≡ take i xs ++ x ∷ []
take-more [] i x is = cc
take-more (y ∷ ys) zero x is = let same : y ≡ x = cc in ap (λ z. z ∷ []) same
take-more (y ∷ ys) (suc i) x is = ap (λ l. y ∷ l) (take-more ys i x is)

pub take-all : (xs : List ℤ) (n : ℕ) → length xs ≡ n → take n xs ≡ xs
take-all [] zero is = refl
take-all [] (suc n) is = refl
take-all (x ∷ xs) zero is = absurd (omega arith)
take-all (x ∷ xs) (suc n) is = ap (λ l. x ∷ l) (take-all xs n (omega arith))

-- one more is looked at
pub least-more : (d : ℤ) (xs : List ℤ) (i : ℕ) (x : ℤ) → slice_get xs i ≡ Some x → least (d ∷ take (suc i) xs) ≡ int_min (least (d ∷ take i xs)) x
least-more d xs i x is = ap (least_with d) (take-more xs i x is) ∙ least-snoc d (take i xs) x

-- a difference that is the least of all
pub least-new : (d l : ℤ) (xs : List ℤ) → l ≡ least xs → 0 < length xs → d ≤ℤ l → least_with d xs ≡ d
least-new d l [] is some le = absurd (omega arith)
least-new d l (x ∷ xs) is some le = omega (arith, ints, clamps)

-- one more difference is put in front
pub least-in_front : (d : ℤ) (xs : List ℤ) → 0 < length xs → least (d ∷ xs) ≡ int_min (least xs) d
least-in_front d [] some = absurd (omega arith)
least-in_front d (x ∷ xs) some = omega (arith, ints, clamps)

-- of a list without its last, where the new one is no more than the least
without-new : (d o l : ℤ) (ys : List ℤ) → l ≡ least (ys ++ o ∷ []) → d ≤ℤ l → least_with d ys ≡ d
without-new d o l [] is le = refl
without-new d o l (y ∷ zs) is le = let e = least-snoc y zs o in omega (arith, ints, clamps)

without-old : (d o l : ℤ) (ys : List ℤ) → l ≡ least (ys ++ o ∷ []) → l <ℤ d → l <ℤ o → least_with d ys ≡ l
without-old d o l [] is more old = absurd (omega (arith, ints))
without-old d o l (y ∷ zs) is more old = let e = least-snoc y zs o in omega (arith, ints, clamps)

some_last : (xs : List ℤ) (n : ℕ) → length xs ≡ n + 1 → (o : ℤ) × (slice_get xs n ≡ Some o)
some_last [] n is = absurd (omega arith)
some_last (x ∷ xs) zero is = (x, refl)
some_last (x ∷ xs) (suc n) is = some_last xs n (omega arith)

last-split : (xs : List ℤ) (n : ℕ) (o : ℤ) → length xs ≡ n + 1 → slice_get xs n ≡ Some o → xs ≡ take n xs ++ o ∷ []
last-split xs n o size is = let next : length xs ≡ suc n = omega arith in sym (take-all xs (suc n) next) ∙ take-more xs n o is

pub least-without_new : (d l : ℤ) (xs : List ℤ) (n : ℕ) → l ≡ least xs → length xs ≡ n + 1 → d ≤ℤ l → least (d ∷ take n xs) ≡ d
least-without_new d l xs n is size le = let last = some_last xs n size in without-new d last.0 l (take n xs) (is ∙ ap least (last-split xs n last.0 size last.1)) le

pub least-without_old : (d o l : ℤ) (xs : List ℤ) (n : ℕ) → l ≡ least xs → length xs ≡ n + 1 → slice_get xs n ≡ Some o → l <ℤ d → l <ℤ o → least (d ∷ take n xs) ≡ l
least-without_old d o l xs n is size at more old = without-old d o l (take n xs) (is ∙ ap least (last-split xs n o size at)) more old

-- ---- the window after a difference
pub take-within : (n m : ℕ) (xs : List ℤ) → n ≤ m → take n (take m xs) ≡ take n xs
take-within zero m xs le = refl
take-within (suc n) zero xs le = absurd (omega arith)
take-within (suc n) (suc m) [] le = refl
take-within (suc n) (suc m) (x ∷ xs) le = ap (λ l. x ∷ l) (take-within n m xs (omega arith))

pub take-whole : (n : ℕ) (xs : List ℤ) → length xs ≤ n → take n xs ≡ xs
take-whole zero [] le = refl
take-whole zero (x ∷ xs) le = absurd (omega arith)
take-whole (suc n) [] le = refl
take-whole (suc n) (x ∷ xs) le = ap (λ l. x ∷ l) (take-whole n xs (omega arith))

pub length-most : (n : ℕ) (xs : List ℤ) → length (take n xs) ≤ n
length-most zero xs = omega arith
length-most (suc n) [] = omega arith
length-most (suc n) (x ∷ xs) = let less = length-most n xs in omega arith

pub near-take : (n : ℕ) (xs : List ℤ) → AreNear xs → AreNear (take n xs)
near-take zero xs near = tt
near-take (suc n) [] near = tt
near-take (suc n) (x ∷ xs) near = (near.0, near-take n xs near.1)

near-with : (x : ℤ) (xs : List ℤ) → IsNear x → AreNear xs → IsNear (least_with x xs)
near-with x [] near rest = near
near-with x (y ∷ ys) near rest =
    let more = near-with y ys rest.0 rest.1 in let a = near.from in let b = near.to in let c = more.from in let d = more.to in
    record { from = omega (arith, ints, clamps); to = omega (arith, ints, clamps) }

pub near-least : (xs : List ℤ) → AreNear xs → IsNear (least xs)
near-least [] near = record { from = omega (arith, ints); to = omega (arith, ints) }
near-least (x ∷ xs) near = near-with x xs near.0 near.1

pub added : (n : ℕ) (d : ℤ) (xs : List ℤ) → n ≤ 512 → take n (take 512 (d ∷ xs)) ≡ take n (d ∷ xs)
added n d xs le = take-within n 512 (d ∷ xs) le

-- there was room for one more
pub least-room : (n : ℕ) (d : ℤ) (xs : List ℤ) → 0 < length xs → length xs < n → int_min (least xs) d ≡ least (take n (d ∷ xs))
least-room n d xs some room = sym (ap least (take-whole n (d ∷ xs) (omega arith)) ∙ least-in_front d xs some)

-- there was none
pub least-full : (n : ℕ) (d : ℤ) (xs : List ℤ) → 0 < length xs → length xs ≡ n → least (d ∷ take (length xs - 1) xs) ≡ least (take n (d ∷ xs))
least-full zero d xs some full = absurd (omega arith)
least-full (suc n) d xs some full = let e : length xs - 1 ≡ n = omega arith in ap (λ m. least (d ∷ take m xs)) e

pub same_quotient : (s t r : ℤ) → r ≡ int_div s (pos 125) → s ≡ t → r ≡ int_div t (pos 125)
same_quotient s t r is same = is ∙ ap (λ z. int_div z (pos 125)) same
