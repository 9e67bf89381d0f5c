use Rattle.live_bin.specs.Words.{lane_in}
use Rattle.live_bin.specs.Grows.{Grows, pending}
use Rattle.live_bin.proofs.state.LaneState.give_controls.Given as goal

abbrev pub invariant-loop : goal.invariant-loop
invariant-loop g l = Grows l.fn.self.lane l.self.lane

abbrev pub decreases-loop : goal.decreases-loop
decreases-loop g l = pending (lane_in l.plan l.self.lane) l.self.lane.progress
