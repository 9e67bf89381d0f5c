use Rattle.std.specs.Prelude.{◌≡◌, length}
use Rattle.bin_core.proofs.Ending.{EndsBelow}
use Rattle.bin_core.proofs.stage.Stage.end_lane.Given as goal

abbrev pub invariant-loop-pusher : goal.invariant-loop-pusher
invariant-loop-pusher l =
    EndsBelow l.time l.number l.pusher l.initial.self l.self l.initial.lines l.lines
    × (length l.self.lanes.items ≡ length l.initial.self.lanes.items)
