use Rattle.live_bin.proofs.Passing.{ManyLanes}
use Rattle.live_bin.proofs.checking.are_right.Given as goal

abbrev pub invariant-loop-number : goal.invariant-loop-number
invariant-loop-number l = ManyLanes l.number l.lanes
