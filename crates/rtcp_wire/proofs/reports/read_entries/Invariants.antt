use Rattle.std.proofs.Common.{◌≡◌}
use Rattle.rtcp_wire.specs.Bodies.{entries_at}
use Rattle.rtcp_wire.proofs.reports.read_entries.Given as goal

abbrev pub invariant-loop-k : goal.invariant-loop-k
invariant-loop-k l = l.list ≡ entries_at l.body l.k
