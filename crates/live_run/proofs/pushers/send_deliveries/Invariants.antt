use Rattle.std.proofs.Common.{◌≤◌}
use Rattle.live_run.proofs.pushers.send_deliveries.Given as goal

abbrev pub invariant-loop-route : goal.invariant-loop-route
invariant-loop-route g l = l.k ≤ l.route-index
