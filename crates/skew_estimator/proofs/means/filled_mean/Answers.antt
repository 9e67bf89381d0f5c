use Rattle.std.proofs.Common.{◌≡◌, ◌∙◌, arith, to_z, of_z}
use mir.Syntax.{w128}
use Rattle.std.specs.Prelude.{ℤ, pos, ◌+ℤ◌, ◌*ℤ◌}
use Rattle.std.proofs.lemmas.Int.{ints}
use Rattle.skew_estimator.proofs.Least.{same_quotient}
use Rattle.skew_estimator.proofs.means.filled_mean.Goals as goal

pub returns-clause-value : goal.returns-clause-value
returns-clause-value c =
    let r = c.hundred_twenty_fifth.result in let from = c.hundred_twenty_fifth.ensures.near.from in let to = c.hundred_twenty_fifth.ensures.near.to in
    let l = c.requires.least.from in let l' = c.requires.least.to in let s = c.requires.skew.from in let s' = c.requires.skew.to in
    let kept : to_z w128 (of_z w128 r) ≡ r = omega (arith, ints) in
    let sum : ℤ = to_z w128 (of_z w128 (to_z w128 (of_z w128 c.args.least) +ℤ to_z w128 (of_z w128 (pos 124 *ℤ to_z w128 (of_z w128 c.args.skew))))) in
    kept ∙ same_quotient sum (c.args.least +ℤ pos 124 *ℤ c.args.skew) r c.hundred_twenty_fifth.ensures.value (omega (arith, ints))
