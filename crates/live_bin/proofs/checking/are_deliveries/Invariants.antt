use Rattle.live_bin.proofs.Passing.{ManyDeliveries}
use Rattle.live_bin.proofs.checking.are_deliveries.Given as goal

abbrev pub invariant-loop-k : goal.invariant-loop-k
invariant-loop-k l = ManyDeliveries l.settings l.pusher l.k l.queue
