use Rattle.std.proofs.Common.{◌∙◌, sym, arith}
use Rattle.rtcp_wire.specs.Nacking.{opens, greedy_behind}
use Rattle.rtcp_wire.proofs.Nacking.{stays, opens_new, ends}
use Rattle.rtcp_wire.proofs.entries.entries_from.Goals as goal
use Rattle.rtcp_wire.proofs.entries.entries_from.Goals.{in-Some, in-None+in_ok-push-in-None}

pub loop-number-preserved : goal.loop-number-preserved
loop-number-preserved c =
    let total = greedy_behind (opens c.args.first) c.args.numbers.now in
    elim c.match-join.branch [
      | in-Some w ↦
          rw (w.list-is, w.entry-is) (stays c.loop-number.list.items c.loop-number.entry w.in-Some.joined c.args.numbers.now c.loop-number.number-index total (omega arith) (sym c.join.ensures ∙ w.in-Some.is) c.loop-number.invariant)
      | in-None+in_ok-push-in-None w ↦
          rw (w.list-is, w.entry-is, w.in_ok-push-in-None.ensures.items, w.open-entry-in-None.ensures) (opens_new c.loop-number.list.items c.loop-number.entry c.args.numbers.now c.loop-number.number-index total (omega arith) (sym c.join.ensures ∙ w.in-None.is) c.loop-number.invariant)
    ]

pub returns : goal.returns
returns c =
    rw c.in_ok-push.ensures.items (ends c.loop-number.list.items c.loop-number.entry c.args.numbers.now c.loop-number.number-index (greedy_behind (opens c.args.first) c.args.numbers.now) (omega arith) c.loop-number.invariant)
