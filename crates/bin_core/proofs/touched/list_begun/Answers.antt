use Rattle.std.proofs.Common.{arith}
use Rattle.bin_core.proofs.Marking.{row_none, row_more}
use Rattle.bin_core.proofs.touched.list_begun.Goals as goal

pub loop-lane-init : goal.loop-lane-init
loop-lane-init c = (omega arith, λ k lt. row_none c.args.touched.now.items c.args.from k lt)

pub loop-lane-preserved : goal.loop-lane-preserved
loop-lane-preserved c = (
  omega (arith, c.loop-lane.invariant.0),
  λ k lt. row_more c.args.touched.now.items c.loop-lane.touched.items c.push.new.self.items c.args.from c.loop-lane.lane k c.loop-lane.invariant.0 lt c.in_ok-push.ensures.items (c.loop-lane.invariant.1 k),
)

pub returns : goal.returns
returns c = λ k lt. c.loop-lane.invariant.1 k (omega (arith, lt, c.loop-lane-test.false))
