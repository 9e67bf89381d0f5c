use Rattle.std.specs.Prelude.{◌≡◌, length}
use Rattle.bin_core.proofs.Ending.{EndsLanes}
use Rattle.bin_core.proofs.stage.Stage.end_all.Given as goal

abbrev pub invariant-loop-number : goal.invariant-loop-number
invariant-loop-number l =
    EndsLanes l.time l.number l.initial.self l.self l.initial.lines l.lines
    × (length l.self.lanes.items ≡ length l.initial.self.lanes.items)
