use Rattle.std.proofs.Common.{◌≡◌, ◌+◌, ◌*◌, ◌≤◌}
use Rattle.std.specs.FinMap as map
use Rattle.jitter_core.specs.Scheduling.{AreTimers}
use Rattle.jitter_core.proofs.schedule.first_request.Given as goal

abbrev pub invariant-loop-time : goal.invariant-loop-time
invariant-loop-time g l =
    record {
      room : l.timers.room ≡ l.initial.timers.room;
      right : AreTimers l.state l.timers.times;
      few : map.len l.timers.times ≤ map.len l.initial.timers.times;
      quick : l.steps + 14 * map.len l.timers.times ≤ l.initial.steps + 14 * map.len l.initial.timers.times;
    }

abbrev pub decreases-loop-time : goal.decreases-loop-time
decreases-loop-time g l = map.len l.timers.times
