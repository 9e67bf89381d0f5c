use Rattle.std.proofs.Common.{◌≡◌}
use Rattle.rtcp_wire.specs.Bodies.{blocks_at}
use Rattle.rtcp_wire.proofs.reports.read_blocks.Given as goal

abbrev pub invariant-loop-k : goal.invariant-loop-k
invariant-loop-k l = l.blocks.items ≡ blocks_at l.bytes l.at l.k
