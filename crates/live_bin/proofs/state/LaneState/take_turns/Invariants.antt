use Rattle.live_bin.specs.Grows.{Grows, IsReady, turns_left}
use Rattle.live_bin.proofs.state.LaneState.take_turns.Given as goal

abbrev pub invariant-loop : goal.invariant-loop
invariant-loop g l = Grows l.fn.self.lane l.self.lane × IsReady g.K.Run.plan l.self.lane

abbrev pub decreases-loop : goal.decreases-loop
decreases-loop g l = turns_left g.K.Run.plan l.self.lane
