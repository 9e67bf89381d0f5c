-- When lanes want a turn.
use Rattle.std.specs.Prelude.{ℕ, ◌≡◌, ◌==◌, List, Option, if◌then◌else◌}
use Rattle.std.specs.FinMap as map
use Rattle.lane_core.specs.declared.lane.Lane.{Lane}
use Rattle.lane_core.specs.AllLanes.{wakes_in}
use Rattle.bin_core.specs.declared.wakes.Wakes.{Wakes}

-- the wake of a lane that is kept, if it has one
abbrev pub kept_wake : Wakes → ℕ → Option ℕ
kept_wake wakes lane = map.get wakes.timers.times lane

-- the wakes where a lane's becomes this one
abbrev pub wake_changed : (ℕ → Option ℕ) → ℕ → Option ℕ → ℕ → Option ℕ
wake_changed wakes lane wake k = if k == lane then wake else wakes k

-- These are the wakes of the lanes.
abbrev pub AreWakes : Wakes → List Lane → Type 0
AreWakes wakes lanes = (k : ℕ) → kept_wake wakes k ≡ wakes_in lanes k
