use Rattle.std.proofs.Common.{◌∙◌}
use Rattle.std.proofs.lemmas.Result.{err_from_is_err_and}
use Rattle.live_output.specs.Text.{history_text}
use Rattle.live_output.proofs.Printing.{texts_on, texts_stop}
use Rattle.live_output.proofs.text.print_histories.Goals as goal

pub returns-in_err-print_history : goal.returns-in_err-print_history
returns-in_err-print_history g c =
    let i = c.loop-number.invariant in
    let e = err_from_is_err_and c.from_residual.result c.from_residual.ensures.1 in
    rw (e.1, e.2)
    (texts_stop (history_text c.args.hex c.args.plan.now) c.args.histories.now c.loop-number.number
    c.index-histories-number.result c.in_err-print_history.field-0.0 _ _ _ _ _ _ c.loop-number-test.true
    c.index-histories-number.is i.written i.faults c.in_err-print_history.ensures)

pub loop-number-preserved : goal.loop-number-preserved
loop-number-preserved g c =
    let i = c.loop-number.invariant in
    record {
      written = texts_on (history_text c.args.hex c.args.plan.now) c.args.histories.now
          c.loop-number.number c.index-histories-number.result _ _ _ c.loop-number-test.true
          c.index-histories-number.is i.written c.in_ok-print_history.ensures.0;
      faults = c.in_ok-print_history.ensures.1 ∙ i.faults;
    }
