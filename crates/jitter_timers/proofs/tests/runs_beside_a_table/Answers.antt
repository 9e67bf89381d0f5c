use Rattle.jitter_timers.proofs.TestLemmas.{low-empty}
use Rattle.jitter_timers.proofs.tests.runs_beside_a_table.Goals as goal

pub loop-init : goal.loop-init
loop-init g c = rw c.in_ok-queue.ensures low-empty
