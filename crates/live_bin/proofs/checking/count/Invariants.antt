use Rattle.std.proofs.Common.{◌≡◌, ◌≤◌, ◌+◌, drop}
use Rattle.live_bin.specs.Plans.{packets}
use Rattle.live_bin.proofs.checking.count.Given as goal

abbrev pub invariant-loop-k : goal.invariant-loop-k
invariant-loop-k l = (l.count + packets (drop l.k l.queue) ≡ packets l.queue) × (l.count ≤ l.k)
