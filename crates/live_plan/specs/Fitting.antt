-- Steps that fit the lanes that there are.
use Rattle.std.specs.Prelude.{◌≡◌, ◌<◌, ℕ, ◌+◌, List, [], ◌∷◌}
use Rattle.front_model.specs.declared.Step.{Step}
use Rattle.front_model.specs.declared.Step.TheVariants.{Tell, Open, Push, Sync}

-- A lane that begins has the next number, and something is brought by one of eight sessions to a
-- lane that began.
abbrev pub IsFit : ℕ → Step → Type 0
IsFit count (Tell line) = Unit {0}
IsFit count (Open o) = o.lane ≡ count
IsFit count (Push lane a) = (lane < count) × (a.pusher < 8)
IsFit count (Sync lane r) = (lane < count) × (r.pusher < 8)

-- how many lanes there are after a step
abbrev pub count_after : ℕ → Step → ℕ
count_after count (Tell line) = count
count_after count (Open o) = count + 1
count_after count (Push lane a) = count
count_after count (Sync lane r) = count

-- Each step fits the lanes that there are by then.
abbrev pub AreFit : ℕ → List Step → Type 0
AreFit count [] = Unit {0}
AreFit count (x ∷ xs) = IsFit count x × AreFit (count_after count x) xs
