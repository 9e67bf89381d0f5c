use Rattle.live_bin.proofs.Passing.{lanes_step, lanes_stop, refuted}
use Rattle.live_bin.proofs.checking.are_right.Goals as goal

pub loop-number-preserved : goal.loop-number-preserved
loop-number-preserved c =
    lanes_step c.loop-number.number c.args.lanes.now c.at.result.now c.loop-number.invariant c.at.ensures
    (c.is_lane.ensures.0 c.if-not-is_lane.false)

pub returns-then-not-is_lane : goal.returns-then-not-is_lane
returns-then-not-is_lane c =
    lanes_stop c.loop-number.number c.args.lanes.now c.at.result.now c.loop-number.invariant c.at.ensures
    (refuted _ c.is_lane.ensures c.if-not-is_lane.true)
