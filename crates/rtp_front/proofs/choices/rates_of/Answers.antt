use Rattle.std.proofs.Common.{List, get_or, take, sym, ap, ◌∙◌}
use Rattle.std.specs.List.{filter_map}
use Rattle.std.proofs.lemmas.List.{take_more}
use Rattle.script_lang.specs.declared.script.PtLine.{PtLine}
use Rattle.rtp_demux.specs.Types.{rate_of}
use Rattle.front_model.specs.Types.{rate_in}
use Rattle.rtp_front.proofs.Noting.{rates_more}
use Rattle.rtp_front.proofs.choices.rates_of.Goals as goal

pub loop-line-preserved : goal.loop-line-preserved
loop-line-preserved c = λ s q.
    let items = c.as_slice-line-items.result.now in
    let i = c.loop-line.line-index in
    let none : PtLine = record { session = 0; pt = 0; rate = 0 } in
    rates_more (take i items) (get_or items i none) s q _ _ (c.loop-line.invariant s q)
    (c.in_ok-note_rate.ensures s q)
    ∙ ap (λ (lines : List PtLine). rate_of (filter_map (rate_in s) lines) q)
    (sym (take_more items i none c.loop-line-test.true))
