use Rattle.live_bin.proofs.Passing.{deliveries_step, deliveries_stop, refuted}
use Rattle.live_bin.proofs.checking.are_deliveries.Goals as goal

pub loop-k-preserved : goal.loop-k-preserved
loop-k-preserved c =
    deliveries_step c.args.settings.now c.args.pusher c.loop-k.k c.args.queue.now c.at.result.now c.loop-k.invariant c.at.ensures
    (c.is_delivery.ensures.0 c.if-not-is_delivery.false)

pub returns-then-not-is_delivery : goal.returns-then-not-is_delivery
returns-then-not-is_delivery c =
    deliveries_stop c.args.settings.now c.args.pusher c.loop-k.k c.args.queue.now c.at.result.now c.loop-k.invariant c.at.ensures
    (refuted _ c.is_delivery.ensures c.if-not-is_delivery.true)
