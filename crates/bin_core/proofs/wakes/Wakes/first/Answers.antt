use Rattle.std.proofs.Common.{sym}
use Rattle.bin_core.specs.Waking.{kept_wake}
use Rattle.bin_core.proofs.Waking.{get_none, first_none, first_found}
use Rattle.bin_core.proofs.wakes.Wakes.first.Goals as goal

pub returns-in-None : goal.returns-in-None
returns-in-None c = sym (first_none (kept_wake c.args.self.now) 64 (λ k. get_none c.args.self.now.timers.times k c.in-None.ensures))

pub returns-in-Some : goal.returns-in-Some
returns-in-Some c = first_found c.args.self.now c.in-Some.time c.in-Some.lane c.in-Some.ensures
