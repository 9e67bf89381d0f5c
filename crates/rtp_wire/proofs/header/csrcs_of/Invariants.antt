use Rattle.std.proofs.Common.{◌≡◌}
use Rattle.rtp_wire.specs.View.{csrcs_of}
use Rattle.rtp_wire.proofs.header.csrcs_of.Given as goal

abbrev pub invariant-loop-k : goal.invariant-loop-k
invariant-loop-k l = l.csrcs.items ≡ csrcs_of l.bytes l.k
