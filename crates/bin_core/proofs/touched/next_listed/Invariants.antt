use Rattle.std.proofs.Common.{take}
use Rattle.bin_core.specs.Touching.{IsNextListed}
use Rattle.bin_core.proofs.touched.next_listed.Given as goal

abbrev pub invariant-loop-lane : goal.invariant-loop-lane
invariant-loop-lane l = IsNextListed (take l.lane-index l.touched) l.from l.end l.next
