use Rattle.std.proofs.Common.{◌≡◌, ◌<◌, ◌+◌, drop}
use Rattle.live_bin.specs.Plans.{packets_in}
use Rattle.live_bin.proofs.checking.are_few.Given as goal

abbrev pub invariant-loop-pusher : goal.invariant-loop-pusher
invariant-loop-pusher l = (l.total + packets_in (drop l.pusher l.queues) ≡ packets_in l.queues) × (l.total < 2147483648)
