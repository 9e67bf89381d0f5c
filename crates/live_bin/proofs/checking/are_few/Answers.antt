use Rattle.std.proofs.Common.{arith}
use Rattle.live_bin.proofs.Passing.{few_stop}
use Rattle.live_bin.proofs.checking.are_few.Goals as goal

pub returns-then-more-total : goal.returns-then-more-total
returns-then-more-total c =
    let i = c.loop-pusher.invariant in
    let more = c.count-more.ensures in
    let many = c.if-more-total.true in
    few_stop c.loop-pusher.total c.loop-pusher.pusher c.args.queues.now c.of.result.now i.0 c.of.ensures
    (let below = i.1 in omega (arith, more, many, below))
