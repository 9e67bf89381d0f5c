use Rattle.std.proofs.Common.{◌≡◌, List, Err, refl, subst, ◌∙◌, ◌++◌, false}
use Rattle.std.proofs.lemmas.Result.{err_from_is_err_and}
use Rattle.command_core.specs.Steps.{Prints}
use Rattle.log_text.specs.Text.{line_text}
use Rattle.live_output.specs.declared.clocks.LaneClock.{LaneClock}
use Rattle.live_output.specs.Clocks.{clocks}
use Rattle.live_output.specs.Text.{ending_text, offsets_text}
use Rattle.live_output.specs.Totals.{done_line}
use Rattle.live_output.proofs.Printing.{prints_cut, prints_then}
use Rattle.live_output.proofs.text.print_ending.Goals as goal

pub returns-in_err-print_offsets : goal.returns-in_err-print_offsets
returns-in_err-print_offsets g c =
    let p = c.args.plan.now in
    let hs = c.args.histories.now in
    let are : c.as_slice.result.now ≡ clocks p hs = c.as_slice.ensures.value ∙ c.in_ok-clocks.ensures in
    let e = err_from_is_err_and c.from_residual-in_err-print_offsets.result c.from_residual-in_err-print_offsets.ensures.1 in
    rw (e.1, e.2)
    (prints_cut (offsets_text (clocks p hs)) (line_text false (done_line p hs)) (ending_text p hs)
    c.in_err-print_offsets.field-0.0 _ _ _ _ refl
    (subst (λ (l : List LaneClock). Prints (offsets_text l) (Err c.in_err-print_offsets.field-0.0)
    (g.O.Sink.written c.args.out.now) (g.O.Sink.written c.print_offsets.new.out)
    (g.O.Sink.faults c.args.out.now) (g.O.Sink.faults c.print_offsets.new.out))
    are c.in_err-print_offsets.ensures))

pub returns : goal.returns
returns g c =
    let p = c.args.plan.now in
    let hs = c.args.histories.now in
    let are : c.as_slice.result.now ≡ clocks p hs = c.as_slice.ensures.value ∙ c.in_ok-clocks.ensures in
    let rest = line_text false (done_line p hs) in
    subst (λ (l : List LaneClock). Prints (offsets_text l ++ rest) c.print_done.result
    (g.O.Sink.written c.args.out.now) (g.O.Sink.written c.print_done.new.out)
    (g.O.Sink.faults c.args.out.now) (g.O.Sink.faults c.print_done.new.out))
    are
    (prints_then (offsets_text c.as_slice.result.now) rest c.print_done.result _ _ _ _ _ _
    c.in_ok-print_offsets.ensures.0 c.in_ok-print_offsets.ensures.1 c.print_done.ensures)
