use Rattle.std.proofs.Common.{ℕ, ◌≡◌, ◌<◌, true}
use Rattle.jitter_model.specs.History.{is_pusher}
use Rattle.live_bin.specs.Words.{lane_in}
use Rattle.live_bin.specs.Steps.{ended_of}
use Rattle.live_bin.specs.Grows.{Grows}
use Rattle.live_bin.proofs.state.LaneState.end_all.Given as goal

abbrev pub invariant-loop-pusher : goal.invariant-loop-pusher
invariant-loop-pusher g l =
    Grows l.fn.self.lane l.self.lane
    × (is_pusher (lane_in l.plan l.fn.self.lane).settings.pushers 8 ≡ true → ended_of l.self.lane.progress 8 ≡ true)
    × ((q : ℕ) → q < l.pusher → is_pusher (lane_in l.plan l.fn.self.lane).settings.pushers q ≡ true → ended_of l.self.lane.progress q ≡ true)
