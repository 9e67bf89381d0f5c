use Rattle.replay_model.specs.Taking.{offset_line}
use Rattle.bin_core.proofs.Requesting.{Telling}
use Rattle.bin_core.proofs.offsets.tell.Given as goal

abbrev pub invariant-loop-lane : goal.invariant-loop-lane
invariant-loop-lane l = Telling (offset_line l.time) l.offsets l.lane-index l.initial.lines l.lines
