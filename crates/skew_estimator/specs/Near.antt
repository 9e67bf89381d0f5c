-- How large the estimator's numbers are.
use Rattle.std.specs.Prelude.{◌^◌, ℤ, pos, negsuc, ◌≤ℤ◌, ⊤, List, [], ◌∷◌}

-- within 2 ^ 95 of 0, or one below that
pub record IsNear (z : ℤ) : Type 0 where
  pub from : negsuc (2 ^ 95) ≤ℤ z
  pub to : z ≤ℤ pos (2 ^ 95)

-- each of these is
abbrev pub AreNear : List ℤ → Type 0
AreNear [] = ⊤
AreNear (x ∷ xs) = IsNear x × AreNear xs
