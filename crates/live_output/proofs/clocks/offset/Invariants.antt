use Rattle.std.proofs.Common.{◌≡◌, take}
use Rattle.std.specs.Prelude.{fold}
use Rattle.live_output.specs.Clocks.{further}
use Rattle.live_output.proofs.clocks.offset.Given as goal

abbrev pub invariant-loop-other : goal.invariant-loop-other
invariant-loop-other l = l.most ≡ fold (further l.clock) 0 (take l.other-index l.clocks)
