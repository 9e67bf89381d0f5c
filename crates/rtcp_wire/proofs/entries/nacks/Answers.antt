use Rattle.std.proofs.Common.{arith}
use Rattle.rtcp_wire.proofs.Nacking.{named_result, counted}
use Rattle.rtcp_wire.proofs.entries.nacks.Goals as goal

pub returns-clause-named : goal.returns-clause-named
returns-clause-named c = named_result c.entries_of.result c.args.numbers.now (λ k. omega (arith, c.type_inv.numbers k)) c.entries_of.ensures

pub returns-clause-count : goal.returns-clause-count
returns-clause-count c = counted c.entries_of.result c.args.numbers.now c.entries_of.ensures
