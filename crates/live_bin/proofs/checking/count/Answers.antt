use Rattle.std.proofs.Common.{arith}
use Rattle.live_bin.proofs.Passing.{packets_at, weight_small}
use Rattle.live_bin.proofs.checking.count.Goals as goal

pub loop-k-preserved : goal.loop-k-preserved
loop-k-preserved c =
    let one = packets_at c.loop-k.k c.args.queue.now c.at.result.now c.at.ensures in
    let i = c.loop-k.invariant in
    let w = c.weight_of-count.ensures in
    let small = weight_small c.at.result.now in let le = i.1 in let all = i.0 in (omega (arith, one, all, w), omega (arith, w, small, le))
