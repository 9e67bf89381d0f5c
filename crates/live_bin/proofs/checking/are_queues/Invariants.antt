use Rattle.live_bin.proofs.Passing.{ManyQueues}
use Rattle.live_bin.proofs.checking.are_queues.Given as goal

abbrev pub invariant-loop-pusher : goal.invariant-loop-pusher
invariant-loop-pusher l = ManyQueues l.settings l.pusher l.queues
