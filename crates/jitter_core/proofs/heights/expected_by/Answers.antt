use Rattle.std.proofs.Common.{◌∙◌, sym, ap, arith}
use Rattle.jitter_model.specs.declared.Mark.{Mark}
use Rattle.jitter_core.proofs.Searching.{expected_last, expected_between}
use Rattle.jitter_core.proofs.heights.expected_by.Goals as goal

pub returns-then-above-len-clause-value : goal.returns-then-above-len-clause-value
returns-then-above-len-clause-value c =
    let ms = c.args.marks.now.items in
    let x = c.index-2.result.now in
    ap (λ (m : Mark). m.pts) c.index-2.ensures ∙ sym (expected_last ms c.args.n _ x (omega (arith, c.if-above-eq0.false, c.if-above-len.true, c.len.ensures)) (λ k lt. c.count_above-above.ensures.above k x (omega arith) (omega arith)))

pub returns-clause-value : goal.returns-clause-value
returns-clause-value c =
    let ms = c.args.marks.now.items in
    c.time_between.ensures.value ∙ sym (expected_between ms c.args.n _ _ c.index-3.result.now c.index-2.result.now (omega (arith, c.if-above-eq0.false)) (omega arith) c.index-3.ensures c.index-2.ensures c.count_above-above.ensures.above
    (omega (arith, c.count_above-above.ensures.others c.count_above-above.result c.index-3.result.now (omega arith) (omega arith), ap (λ (m : Mark). m.number) c.index-3.ensures)))
