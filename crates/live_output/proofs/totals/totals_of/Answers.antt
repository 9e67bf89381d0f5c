use Rattle.std.proofs.Common.{List, take, sym, subst}
use Rattle.live_bin.specs.declared.entry.Entry.{Entry}
use Rattle.live_output.specs.declared.totals.TheConstants.{NOTHING}
use Rattle.live_output.specs.Totals.{Counts, entries_of, journal}
use Rattle.live_output.proofs.Counting.{counts_then, entries_next}
use Rattle.live_output.proofs.totals.totals_of.Goals as goal

pub loop-history-preserved : goal.loop-history-preserved
loop-history-preserved c =
    let hs = c.args.histories.now in
    let i = c.loop-history.history-index in
    let h = c.history-item.result in
    subst (λ (es : List Entry). Counts es NOTHING c.in_ok-totals.totals)
    (sym (entries_next hs i h c.loop-history-test.true c.history-item.is))
    (counts_then (entries_of (take i hs)) (journal h) _ _ _ c.loop-history.invariant
    (subst (λ (es : List Entry). Counts es c.loop-history.totals c.in_ok-totals.totals)
    c.entries.ensures c.in_ok-totals.ensures))
