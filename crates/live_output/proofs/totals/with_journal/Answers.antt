use Rattle.std.proofs.Common.{List, [], ◌∷◌, take, sym, subst}
use Rattle.live_bin.specs.declared.entry.Entry.{Entry}
use Rattle.live_output.specs.Totals.{Counts}
use Rattle.live_output.proofs.Counting.{counts_then}
use Rattle.live_output.proofs.Numbering.{take_next}
use Rattle.live_output.proofs.totals.with_journal.Goals as goal

pub loop-entry-preserved : goal.loop-entry-preserved
loop-entry-preserved c =
    let xs = c.args.entries.now in
    let i = c.loop-entry.entry-index in
    let x = c.entry-item.result in
    subst (λ (es : List Entry). Counts es c.args.totals c.in_ok-all.all)
    (sym (take_next xs i x c.loop-entry-test.true c.entry-item.is))
    (counts_then (take i xs) (x ∷ []) _ _ _ c.loop-entry.invariant c.in_ok-all.ensures)
