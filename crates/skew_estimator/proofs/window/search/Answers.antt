use Rattle.std.proofs.Common.{◌≡◌, ◌+◌, suc, ap, ◌∙◌, sym, arith, to_z, of_z, take, ◌∷◌}
use mir.Syntax.{w128}
use Rattle.std.specs.Int.{int_min}
use Rattle.std.proofs.lemmas.Int.{ints}
use Rattle.skew_model.specs.Skew.{least}
use Rattle.skew_estimator.proofs.Least.{least-more}
use Rattle.skew_estimator.proofs.window.search.Goals as goal

pub loop-index-preserved : goal.loop-index-preserved
loop-index-preserved c =
    let l = c.loop-index in let xs = c.args.differences.now.items in let i = l.index in let d = c.args.difference in let o = c.difference_at-other.result in
    let m : to_z w128 (of_z w128 c.min-least.result) ≡ c.min-least.result = omega (arith, ints) in
    let other : to_z w128 (of_z w128 o) ≡ o = omega (arith, ints) in
    let next : suc i ≡ i + 1 = omega arith in
    m ∙ c.min-least.ensures.value ∙ (λ k. int_min (l.invariant k) (other k)) ∙ sym (least-more _ xs i o c.difference_at-other.ensures) ∙ ap (λ n. least (to_z w128 (of_z w128 d) ∷ take n xs)) next
