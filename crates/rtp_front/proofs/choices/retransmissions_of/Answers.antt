use Rattle.std.proofs.Common.{get_or, take, sym, ap, ◌∙◌}
use Rattle.std.specs.List.{list_any}
use Rattle.std.proofs.lemmas.List.{take_more}
use Rattle.rtp_units.specs.declared.shared.RtxLine.{RtxLine}
use Rattle.rtx.specs.Pairs.{carries}
use Rattle.rtp_front.proofs.Noting.{types_more}
use Rattle.rtp_front.proofs.choices.retransmissions_of.Goals as goal

pub loop-line-preserved : goal.loop-line-preserved
loop-line-preserved c = λ s q.
    let items = c.as_slice-line-items.result.now in
    let i = c.loop-line.line-index in
    let none : RtxLine = record { session = 0; pt = 0; osession = 0; apt = 0 } in
    types_more (take i items) (get_or items i none) s q _ _ (c.loop-line.invariant s q)
    (c.in_ok-insert.ensures.updates.0 (s, q))
    ∙ ap (list_any (carries s q)) (sym (take_more items i none c.loop-line-test.true))
