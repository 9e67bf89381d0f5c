-- What the elements of a list give, by their numbers.
use Rattle.std.specs.Prelude.{ℕ, ◌+◌, List, [], ◌∷◌, ◌++◌}

-- all that they give, in order, where the first one has this number
abbrev pub flat_map_from : {A B : Type 0} → (ℕ → A → List B) → ℕ → List A → List B
flat_map_from f n [] = []
flat_map_from f n (x ∷ xs) = f n x ++ flat_map_from f (n + 1) xs
