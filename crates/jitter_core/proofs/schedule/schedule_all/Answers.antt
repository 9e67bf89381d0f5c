use Rattle.std.proofs.Common.{ℕ, ap, arith, ◌∙◌}
use Rattle.std.specs.FinMap as map
use Rattle.std.specs.Ordering.{nat_cmp}
use Rattle.jitter_core.proofs.Resetting.{none_below_none}
use Rattle.jitter_core.proofs.Timers.{no_timers}
use Rattle.jitter_core.proofs.schedule.schedule_all.Goals as goal

pub schedule_from-requires-clause-below : goal.schedule_from-requires-clause-below
schedule_from-requires-clause-below g c =
    none_below_none c.args.state.now c.clear.new.self.times c.if-state.true
    (ap (λ x. x.times) c.clear.ensures)

pub returns-else-state-clause-right : goal.returns-else-state-clause-right
returns-else-state-clause-right g c =
    no_timers c.args.state.now c.clear.new.self.times c.if-state.false
    (ap (λ x. x.times) c.clear.ensures)
