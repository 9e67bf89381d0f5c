use Rattle.std.proofs.Common.{arith}
use Rattle.rtcp_wire.specs.Sdes.{items_at}
use Rattle.rtcp_wire.proofs.Chunks.{items_go, items_end, items_bad, items_none_left}
use Rattle.rtcp_wire.proofs.sdes.read_items.Goals as goal

pub returns-in-Bad-clause-value : goal.returns-in-Bad-clause-value
returns-in-Bad-clause-value c =
    let step = rw c.in-Bad.is at c.in_ok-read_item.ensures in
    items_bad c.loop.items c.args.steps c.loop.counter c.loop.rest.now (items_at c.args.steps c.args.bytes.now) (omega arith) step c.loop.invariant.0

pub returns-in-End-clause-value : goal.returns-in-End-clause-value
returns-in-End-clause-value c =
    let step = rw c.in-End.is at c.in_ok-read_item.ensures in
    items_end c.loop.items c.args.steps c.loop.counter c.loop.rest.now c.in-End.behind.now (items_at c.args.steps c.args.bytes.now) (omega arith) step.0 c.loop.invariant.0

pub loop-preserved : goal.loop-preserved
loop-preserved c =
    let step = rw c.in-Item.is at c.in_ok-read_item.ensures in (
      rw c.in_ok-push-in-Item.ensures.ok (items_go c.loop.items c.args.steps c.loop.counter c.loop.rest.now c.in-Item.behind.now c.in-Item.item (items_at c.args.steps c.args.bytes.now) (omega arith) step.0 c.loop.invariant.0),
      omega (arith, step.1, c.loop.invariant.1),
    )

pub returns-clause-value : goal.returns-clause-value
returns-clause-value c = items_none_left c.loop.items c.args.steps c.loop.counter c.loop.rest.now (items_at c.args.steps c.args.bytes.now) (omega arith) c.loop.invariant.0
