use Rattle.std.proofs.Common.{refl}
use Rattle.replay_model.specs.Taking.{offset_line}
use Rattle.bin_core.proofs.Requesting.{none_told, one_told, all_told}
use Rattle.bin_core.proofs.offsets.tell.Goals as goal

pub loop-lane-init : goal.loop-lane-init
loop-lane-init c = none_told (offset_line c.args.time) c.args.offsets.now c.args.lines.now

pub loop-lane-preserved : goal.loop-lane-preserved
loop-lane-preserved c =
    one_told (offset_line c.args.time) c.args.offsets.now c.loop-lane.lane-index _ (0, 0) _ c.args.lines.now c.loop-lane.lines c.push.new.self c.loop-lane-test.true refl refl c.in_ok-push.ensures.ok c.loop-lane.invariant

pub returns : goal.returns
returns c = all_told (offset_line c.args.time) c.args.offsets.now c.loop-lane.lane-index c.args.lines.now c.loop-lane.lines c.loop-lane-test.false c.loop-lane.invariant
