use Rattle.std.proofs.Common.{arith}
use Rattle.live_plan.proofs.Clocks.{passes}
use Rattle.live_plan.proofs.clock.pass.Goals as goal

pub returns : goal.returns
returns c = λ seen r is p. passes c.args.clock c.args.stamp c.unwrap_or-first.result c.max.result seen r c.unwrap_or-first.ensures (grind arith) is p
