use Rattle.std.proofs.Common.{ℕ, ◌≡◌, ◌+◌, ◌≤◌, ap, arith}
use Rattle.std.specs.FinMap as map
use Rattle.jitter_timers.specs.Timers.{Timers}
use Rattle.jitter_core.proofs.Timers.{quick, len_insert, len_remove}
use Rattle.jitter_core.proofs.schedule.reschedule.Goals as goal

set_few : (old new : Timers) (n t : ℕ) → new ≡ record { room = old.room; times = map.insert old.times n t; heap = new.heap } → map.len new.times ≤ map.len old.times + 1
set_few old new n t e = let times : new.times ≡ map.insert old.times n t = ap (λ (z : Timers). z.times) e in rw times (len_insert old.times n t)

gone_few : (old new : Timers) (n : ℕ) → new ≡ record { room = old.room; times = map.remove old.times n; heap = new.heap } → map.len new.times ≤ map.len old.times
gone_few old new n e = let times : new.times ≡ map.remove old.times n = ap (λ (z : Timers). z.times) e in rw times (len_remove old.times n)

pub returns-in-Some-clause-quick : goal.returns-in-Some-clause-quick
returns-in-Some-clause-quick g c =
    quick c.args.timers.now.times c.set.new.self.times c.args.steps.now c.set.new.steps c.requires.few (omega (arith, c.requires.few, set_few c.args.timers.now c.set.new.self c.args.number c.in-Some.time c.set.ensures.after)) c.set.ensures.quick

pub returns-in-None-clause-quick : goal.returns-in-None-clause-quick
returns-in-None-clause-quick g c =
    quick c.args.timers.now.times c.cancel.new.self.times c.args.steps.now c.cancel.new.steps c.requires.few (omega (arith, c.requires.few, gone_few c.args.timers.now c.cancel.new.self c.args.number c.cancel.ensures.after)) c.cancel.ensures.quick
