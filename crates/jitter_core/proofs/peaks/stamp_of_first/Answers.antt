use Rattle.std.proofs.Common.{◌∙◌, Some, sym, ap, arith}
use Rattle.jitter_core.specs.declared.peaks.Peak.{Peak}
use Rattle.jitter_core.proofs.Searching.{stamp_at, stamp_none}
use Rattle.jitter_core.proofs.peaks.stamp_of_first.Goals as goal

pub returns-then-below-len-clause-value : goal.returns-then-below-len-clause-value
returns-then-below-len-clause-value c =
    sym (stamp_none c.args.peaks.now.items c.args.number (λ k d lt. c.count_below-below.ensures.below k d (omega arith) (omega arith)))

pub returns-else-below-len-clause-value : goal.returns-else-below-len-clause-value
returns-else-below-len-clause-value c =
    let x = c.index.result.now in
    ap (λ (p : Peak). Some p.stamp) c.index.ensures ∙ sym (stamp_at c.args.peaks.now.items c.args.number c.count_below-below.result x (omega arith) (λ k lt. c.count_below-below.ensures.below k x (omega arith) lt) (c.count_below-below.ensures.others c.count_below-below.result x (omega arith) (omega arith)))
