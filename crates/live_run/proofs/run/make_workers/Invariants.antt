use Rattle.std.proofs.Common.{◌<◌, vec_len}
use Rattle.live_run.proofs.run.make_workers.Given as goal

abbrev pub invariant-loop-session : goal.invariant-loop-session
invariant-loop-session l = 0 < vec_len l.workers

abbrev pub invariant-loop-number : goal.invariant-loop-number
invariant-loop-number l = 0 < vec_len l.workers
