use Rattle.jitter_core.proofs.Resetting.{Resetting}
use Rattle.jitter_core.proofs.schedule.schedule_from.Given as goal

abbrev pub invariant-loop-number : goal.invariant-loop-number
invariant-loop-number g l = Resetting l.state l.from l.number l.timers l.initial.steps l.steps

abbrev pub decreases-loop-number : goal.decreases-loop-number
decreases-loop-number g l = l.number
