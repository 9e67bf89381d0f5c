use Rattle.jitter_timers.specs.Tests.{IsLow}
use Rattle.jitter_timers.proofs.tests.runs_beside_a_table.Given as goal

abbrev pub invariant-loop : goal.invariant-loop
invariant-loop g l = IsLow l.queue
