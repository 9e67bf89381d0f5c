use Rattle.std.proofs.Common.{refl}
use Rattle.std.proofs.lemmas.Result.{err_from_is_err_and}
use Rattle.live_output.specs.Text.{ending_text, histories_text, live_text}
use Rattle.live_output.proofs.Printing.{prints_cut, prints_then}
use Rattle.live_output.proofs.text.print_live.Goals as goal

pub returns-in_err-print_histories : goal.returns-in_err-print_histories
returns-in_err-print_histories g c =
    let p = c.args.plan.now in
    let hs = c.args.histories.now in
    let e = err_from_is_err_and c.from_residual.result c.from_residual.ensures.1 in
    rw (e.1, e.2)
    (prints_cut (histories_text c.args.hex p hs) (ending_text p hs) (live_text c.args.hex p hs)
    c.in_err-print_histories.field-0.0 _ _ _ _ refl c.in_err-print_histories.ensures)

pub returns : goal.returns
returns g c =
    let p = c.args.plan.now in
    let hs = c.args.histories.now in
    prints_then (histories_text c.args.hex p hs) (ending_text p hs) c.print_ending.result
    _ _ _ _ _ _ c.in_ok-print_histories.ensures.0 c.in_ok-print_histories.ensures.1 c.print_ending.ensures
