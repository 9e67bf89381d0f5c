use Rattle.live_bin.proofs.Passing.{queues_step, queues_stop, refuted}
use Rattle.live_bin.proofs.checking.are_queues.Goals as goal

pub loop-pusher-preserved : goal.loop-pusher-preserved
loop-pusher-preserved c =
    queues_step c.args.settings.now c.loop-pusher.pusher c.args.queues.now c.of.result.now c.loop-pusher.invariant c.of.ensures
    (c.are_deliveries.ensures.0 c.if-not-are_deliveries.false)

pub returns-then-not-are_deliveries : goal.returns-then-not-are_deliveries
returns-then-not-are_deliveries c =
    queues_stop c.args.settings.now c.loop-pusher.pusher c.args.queues.now c.of.result.now c.loop-pusher.invariant c.of.ensures
    (refuted _ c.are_deliveries.ensures c.if-not-are_deliveries.true)
