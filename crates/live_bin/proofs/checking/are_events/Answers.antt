use Rattle.live_bin.proofs.Passing.{events_step, events_stop, flushes_step, refuted}
use Rattle.live_bin.proofs.checking.are_events.Goals as goal

pub loop-k-preserved : goal.loop-k-preserved
loop-k-preserved c = (
  events_step c.loop-k.k c.args.events.now c.at-event.result c.loop-k.invariant.0 c.at-event.ensures (c.is_event.ensures.0 c.if-not-is_event.false),
  flushes_step c.loop-k.k c.loop-k.flushing _ c.args.events.now c.at-event.result c.loop-k.invariant.1 c.at-event.ensures c.flushes-flushing.ensures,
)

pub returns-then-not-is_event : goal.returns-then-not-is_event
returns-then-not-is_event c =
    events_stop c.loop-k.k c.args.events.now c.at-event.result _ c.loop-k.invariant.0 c.at-event.ensures
    (refuted _ c.is_event.ensures c.if-not-is_event.true)
