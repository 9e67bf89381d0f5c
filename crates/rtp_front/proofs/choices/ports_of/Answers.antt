use Rattle.std.proofs.Common.{take, sym, ap, ◌∙◌}
use Rattle.std.specs.Prelude.{find}
use Rattle.std.proofs.lemmas.List.{take_more}
use Rattle.front_model.specs.Records.{is_to}
use Rattle.rtp_front.proofs.Noting.{ports_more}
use Rattle.rtp_front.proofs.choices.ports_of.Goals as goal

pub loop-line-preserved : goal.loop-line-preserved
loop-line-preserved c = λ q.
    let items = c.as_slice-line-items.result.now in
    let i = c.loop-line.line-index in
    ports_more (take i items) _ q _ _ _ (c.loop-line.invariant q) (c.in_ok-note_port.ensures q)
    (c.in_ok-note_port-2.ensures q)
    ∙ ap (find (is_to q)) (sym (take_more items i _ c.loop-line-test.true))
