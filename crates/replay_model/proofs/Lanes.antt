-- The histories of lanes, one more event.
use Rattle.std.proofs.Common.{ℕ, ◌≡◌, ◌≢◌, Bool, true, false, refl, ap, ◌∷◌, arith}
use Rattle.std.specs.Prelude.{◌==◌, if◌then◌else◌}
use Rattle.std.proofs.lemmas.Grind.{common_steps}
use Rattle.jitter_model.specs.declared.Entry.{Entry}
use Rattle.replay_model.specs.Events.{Timeline, At, lane}

eq-same : (n : ℕ) → (n == n) ≡ true
eq-same n = grind (arith, common_steps)

eq-other : (n m : ℕ) → n ≢ m → (n == m) ≡ false
eq-other n m h = grind (arith, common_steps)

pub lane_here : (t l : ℕ) (e : Entry) (tl : Timeline) → lane l (At t l e ∷ tl) ≡ e ∷ lane l tl
lane_here t l e tl = ap (λ (b : Bool). if b then e ∷ lane l tl else lane l tl) (eq-same l)

pub lane_other : (t k l : ℕ) (e : Entry) (tl : Timeline) → k ≢ l → lane l (At t k e ∷ tl) ≡ lane l tl
lane_other t k l e tl h = ap (λ (b : Bool). if b then e ∷ lane l tl else lane l tl) (eq-other k l h)

-- a case split that keeps the equation
pub by_cases : {P : Type 0} (b : Bool) → (b ≡ true → P) → (b ≡ false → P) → P
by_cases true f g = f refl
by_cases false f g = g refl
