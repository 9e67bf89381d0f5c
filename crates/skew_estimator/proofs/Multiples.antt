-- Bounds on a multiple of an integer.
use Rattle.std.proofs.Common.{ℕ, suc, ◌-◌, ◌*◌, ◌≤◌, arith}
use Rattle.std.specs.Prelude.{ℤ, pos, negsuc, ◌+ℤ◌, ◌*ℤ◌, ◌≤ℤ◌}
use Rattle.std.proofs.Math.IntN.{neg_ℤ}
use Rattle.std.proofs.lemmas.Int.{ints}
use Rattle.std.proofs.Math.Nat.{mul-le-mul_left}

pub times_high : (k m : ℕ) (x : ℤ) → x ≤ℤ pos m → (pos k *ℤ x) ≤ℤ pos (k * m)
times_high k m (pos n) h = let le : n ≤ m = omega (arith, ints) in omega (arith, ints, mul-le-mul_left k le)
times_high k m (negsuc n) h = omega (arith, ints)

pub times_low : (k m : ℕ) (x : ℤ) → negsuc m ≤ℤ x → neg_ℤ (pos (k * suc m)) ≤ℤ (pos k *ℤ x)
times_low k m (pos n) h = omega (arith, ints)
times_low k m (negsuc n) h = let le : suc n ≤ suc m = omega (arith, ints) in omega (arith, ints, mul-le-mul_left k le)

-- a weighted sum of two numbers, with 10000 for the weights' sum
pub sum_low : (w : ℕ) (a b : ℤ) → w ≤ 10000 → neg_ℤ (pos (w * 39614081257132168796771975169)) ≤ℤ a → neg_ℤ (pos ((10000 - w) * 39614081257132168796771975169)) ≤ℤ b
    → negsuc 396140812571321687967719751689999 ≤ℤ (a +ℤ b)
sum_low w a b few low next = omega (arith, ints)

pub sum_high : (w : ℕ) (a b : ℤ) → w ≤ 10000 → a ≤ℤ pos (w * 39614081257132168796771975168) → b ≤ℤ pos ((10000 - w) * 39614081257132168796771975168)
    → (a +ℤ b) ≤ℤ pos 396140812571321687967719751680000
sum_high w a b few high next = omega (arith, ints)
