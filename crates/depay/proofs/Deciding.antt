-- Tests that hold and tests that don't.
use Rattle.std.proofs.Common.{◌≡◌, ◌<◌, ◌≤◌, ℕ, Bool, true, false, refl, arith}
use Rattle.std.specs.Prelude.{◌&&◌, ◌==◌, not, nat_lt, nat_le}
use Rattle.std.proofs.lemmas.Bool.Decides.{nat_tests}

pub both : (p q : Bool) → (p && q) ≡ true → (p ≡ true) × (q ≡ true)
both true q e = (refl, e)
both false q e = absurd cc

pub both_hold : (p q : Bool) → p ≡ true → q ≡ true → (p && q) ≡ true
both_hold true q a b = b
both_hold false q a b = absurd cc

pub left_fails : (p q : Bool) → p ≡ false → (p && q) ≡ false
left_fails true q a = absurd cc
left_fails false q a = refl

pub right_fails : (p q : Bool) → q ≡ false → (p && q) ≡ false
right_fails true q a = a
right_fails false q a = refl

pub and_holds : (p q : Bool) → q ≡ true → (p && q) ≡ p
and_holds true q a = a
and_holds false q a = refl

pub not_holds : (b : Bool) → not b ≡ true → b ≡ false
not_holds true e = absurd cc
not_holds false e = refl

pub not_fails : (b : Bool) → b ≡ false → not b ≡ true
not_fails true e = absurd cc
not_fails false e = refl

pub refuted : (b : Bool) → (b ≡ true → ⊥) → b ≡ false
refuted true h = absurd (h refl)
refuted false h = refl

pub eq_holds : (a b : ℕ) → a ≡ b → (a == b) ≡ true
eq_holds a b e = grind (arith, nat_tests)

pub eq_fails : (a b : ℕ) → (a ≡ b → ⊥) → (a == b) ≡ false
eq_fails a b h = grind (arith, nat_tests)

pub equal : (a b : ℕ) → (a == b) ≡ true → a ≡ b
equal a b e = grind (arith, nat_tests)

pub lt_holds : (a b : ℕ) → a < b → nat_lt a b ≡ true
lt_holds a b h = grind (arith, nat_tests)

pub lt_fails : (a b : ℕ) → b ≤ a → nat_lt a b ≡ false
lt_fails a b h = grind (arith, nat_tests)

pub not_less : (a b : ℕ) → nat_lt a b ≡ false → b ≤ a
not_less a b h = grind (arith, nat_tests)

pub less : (a b : ℕ) → nat_lt a b ≡ true → a < b
less a b h = grind (arith, nat_tests)

pub le_holds : (a b : ℕ) → a ≤ b → nat_le a b ≡ true
le_holds a b h = grind (arith, nat_tests)

pub le_fails : (a b : ℕ) → b < a → nat_le a b ≡ false
le_fails a b h = grind (arith, nat_tests)

pub at_most : (a b : ℕ) → nat_le a b ≡ true → a ≤ b
at_most a b h = grind (arith, nat_tests)

pub not_zero : (n : ℕ) → (n == 0) ≡ false → 1 ≤ n
not_zero n e = grind (arith, nat_tests)
