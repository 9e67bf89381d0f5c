use Rattle.std.proofs.Common.{arith}
use Rattle.command_core.proofs.Clocks.{passes}
use Rattle.command_core.proofs.clock.pass.Goals as goal

pub returns-clause-passed : goal.returns-clause-passed
returns-clause-passed c = λ seen r is p. passes c.args.clock c.args.stamp c.unwrap_or-first.result c.max.result seen r c.unwrap_or-first.ensures (grind arith) is p
