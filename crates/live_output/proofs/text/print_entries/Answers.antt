use Rattle.std.proofs.Common.{◌∙◌}
use Rattle.live_text.specs.Text.{entry_text}
use Rattle.std.proofs.lemmas.Result.{err_from_is_err_and}
use Rattle.live_output.proofs.Printing.{texts_on, texts_stop}
use Rattle.live_output.proofs.text.print_entries.Goals as goal

pub returns-in_err-print_entry : goal.returns-in_err-print_entry
returns-in_err-print_entry g c =
    let i = c.loop-index.invariant in
    let e = err_from_is_err_and c.from_residual.result c.from_residual.ensures.1 in
    rw (e.1, e.2)
    (texts_stop (entry_text c.args.hex) c.args.entries.now c.loop-index.index
    c.index-entries-index.result c.in_err-print_entry.field-0.0 _ _ _ _ _ _ c.loop-index-test.true
    c.index-entries-index.is i.written i.faults c.in_err-print_entry.ensures)

pub loop-index-preserved : goal.loop-index-preserved
loop-index-preserved g c =
    let i = c.loop-index.invariant in
    record {
      written = texts_on (entry_text c.args.hex) c.args.entries.now c.loop-index.index
          c.index-entries-index.result _ _ _ c.loop-index-test.true c.index-entries-index.is
          i.written c.in_ok-print_entry.ensures.0;
      faults = c.in_ok-print_entry.ensures.1 ∙ i.faults;
    }
