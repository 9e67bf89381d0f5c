use Rattle.std.proofs.Common.{◌≡◌, ◌∙◌, refl, length, arith, rules}
use Rattle.std.specs.Vec.{vec_len}
use Rattle.bin_core.proofs.Ending.{lanes_more, lanes_all}
use Rattle.bin_core.proofs.stage.Stage.end_all.Goals as goal

pub loop-number-init : goal.loop-number-init
loop-number-init c = (λ k base tl h. h, refl)

pub end_lane-requires : goal.end_lane-requires
end_lane-requires c =
    let same : vec_len c.args.self.now.lanes ≡ length c.args.self.now.lanes.items = search rules in
    omega (arith, c.loop-number-test.true, c.len-number-end.ensures, c.loop-number.invariant.1, same)

pub loop-number-preserved : goal.loop-number-preserved
loop-number-preserved c = (
  lanes_more c.timelines_keep.ensures c.args.time c.loop-number.number _ c.args.self.now c.loop-number.self c.end_lane.new.self c.args.lines.now c.loop-number.lines c.end_lane.new.lines refl c.in_ok-end_lane.ensures.stands c.loop-number.invariant.0,
  c.end_lane.ensures.same ∙ c.loop-number.invariant.1,
)

pub returns-clause-stands : goal.returns-clause-stands
returns-clause-stands c =
    let same : vec_len c.args.self.now.lanes ≡ length c.args.self.now.lanes.items = search rules in
    lanes_all c.args.time c.loop-number.number c.args.self.now c.loop-number.self c.args.lines.now c.loop-number.lines
    (omega (arith, c.loop-number-test.false, c.loop-number.auto.number-end, c.len-number-end.ensures, same)) c.loop-number.invariant.0

pub returns-clause-same : goal.returns-clause-same
returns-clause-same c = c.loop-number.invariant.1

pub returns-in_err-end_lane-clause-same : goal.returns-in_err-end_lane-clause-same
returns-in_err-end_lane-clause-same c = c.end_lane.ensures.same ∙ c.loop-number.invariant.1
