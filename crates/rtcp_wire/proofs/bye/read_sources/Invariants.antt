use Rattle.std.proofs.Common.{◌≡◌}
use Rattle.rtcp_wire.specs.Bodies.{numbers_at}
use Rattle.rtcp_wire.proofs.bye.read_sources.Given as goal

abbrev pub invariant-loop-k : goal.invariant-loop-k
invariant-loop-k l = l.ssrcs ≡ numbers_at l.body l.k
