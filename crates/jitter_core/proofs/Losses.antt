-- The end of a loss, and tests of all numbers below one.
use Rattle.std.proofs.Common.{ℕ, zero, suc, ◌≡◌, ◌+◌, ◌-◌, ◌<◌, ◌≤◌, Bool, true, false, ◌||◌, ◌&&◌, refl, sym, ap, ◌∙◌, arith}
use Rattle.std.specs.Prelude.{◌==◌, nat_lt}
use Rattle.std.proofs.lemmas.Grind.{common_steps}
use Rattle.jitter_model.specs.History.{all_below}
use Rattle.jitter_model.specs.Turns.{least_from}

least_from-next : (passes : ℕ → Bool) (n count : ℕ) → passes n ≡ false → least_from passes (n + 1) count ≡ least_from passes n (suc count)
least_from-next passes n count fails = rw fails refl

-- a number that doesn't pass is skipped
pub least_from-skip : (passes : ℕ → Bool) (n e : ℕ) → n < e → passes n ≡ false → least_from passes (n + 1) (e - (n + 1)) ≡ least_from passes n (e - n)
least_from-skip passes n e lt fails =
    let count : e - n ≡ suc (e - (n + 1)) = omega arith in
    rw count (least_from-next passes n (e - (n + 1)) fails)

here : (passes : ℕ → Bool) (n count : ℕ) → passes n ≡ true → n ≡ least_from passes n (suc count)
here passes n count is = rw is refl

-- one that passes is the least
pub least_from-here : (passes : ℕ → Bool) (n e : ℕ) → n < e → passes n ≡ true → n ≡ least_from passes n (e - n)
least_from-here passes n e lt is =
    let count : e - n ≡ suc (e - (n + 1)) = omega arith in
    rw count (here passes n (e - (n + 1)) is)

-- a number that is there, or whose deadline is still to come
pub is_coming : (there : Bool) (time deadline : ℕ) → time < deadline → (there || nat_lt time deadline) ≡ true
is_coming true time deadline lt = refl
is_coming false time deadline lt = grind (arith, common_steps)

-- a number that is not there and whose deadline has passed
pub is_passed : (there : Bool) (time deadline : ℕ) → there ≡ false → deadline ≤ time → (there || nat_lt time deadline) ≡ false
is_passed true time deadline e le = e
is_passed false time deadline e le = grind (arith, common_steps)

and_false : (a : Bool) → (a && false) ≡ false
and_false true = refl
and_false false = refl

pub and_last : (a b : Bool) → b ≡ false → (a && b) ≡ false
and_last a b e = rw e (and_false a)

-- one that fails below n
pub all_below-fails : (passes : ℕ → Bool) (k n : ℕ) → k < n → passes k ≡ false → all_below passes n ≡ false
all_below-fails passes k zero lt e = absurd (omega arith)
all_below-fails passes k (suc n) lt e =
    elim (k == n) as (λ b. (k == n) ≡ b → (all_below passes n && passes n) ≡ false) [
      | true ↦ λ same. let is : k ≡ n = grind (arith, common_steps) in and_last (all_below passes n) (passes n) (ap passes (sym is) ∙ e)
      | false ↦ λ other. let less : k < n = grind (arith, common_steps) in rw (all_below-fails passes k n less e) refl
    ] refl
