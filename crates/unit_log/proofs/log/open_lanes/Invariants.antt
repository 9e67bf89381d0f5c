use Rattle.std.proofs.Common.{ℕ, List, ◌+◌, ◌-◌, length}
use Rattle.depay.specs.Fragments.{Call}
use Rattle.unit_log.specs.Standing.{WereGiven}
use Rattle.unit_log.proofs.log.open_lanes.Given as goal

abbrev pub invariant-lanes : goal.invariant-lanes
invariant-lanes l = (calls : ℕ → List Call) → WereGiven l.format calls l.initial.lanes.items
    → WereGiven l.format calls l.lanes.items

abbrev pub decreases-lanes : goal.decreases-lanes
decreases-lanes l = l.lane + 1 - length l.lanes.items
