use Rattle.std.proofs.Common.{◌≡◌, arith, to_z, of_z}
use mir.Syntax.{w128}
use Rattle.std.proofs.lemmas.Int.{ints}
use Rattle.skew_estimator.proofs.Multiples.{sum_low, sum_high}
use Rattle.skew_estimator.proofs.means.filling_mean.Goals as goal

pub ten_thousandth-requires-clause-from : goal.ten_thousandth-requires-clause-from
ten_thousandth-requires-clause-from c =
    let w = c.square-weight.result in let a = c.times-least.result in let b = c.times-skew.result in let few = c.square-weight.ensures.small in
    let a0 = c.times-least.ensures.above in let a1 = c.times-least.ensures.below in let b0 = c.times-skew.ensures.above in let b1 = c.times-skew.ensures.below in
    let x : to_z w128 (of_z w128 a) ≡ a = omega (arith, ints) in let y : to_z w128 (of_z w128 b) ≡ b = omega (arith, ints) in
    rw (x, y) (sum_low w a b few a0 b0)

pub ten_thousandth-requires-clause-to : goal.ten_thousandth-requires-clause-to
ten_thousandth-requires-clause-to c =
    let w = c.square-weight.result in let a = c.times-least.result in let b = c.times-skew.result in let few = c.square-weight.ensures.small in
    let a0 = c.times-least.ensures.above in let a1 = c.times-least.ensures.below in let b0 = c.times-skew.ensures.above in let b1 = c.times-skew.ensures.below in
    let x : to_z w128 (of_z w128 a) ≡ a = omega (arith, ints) in let y : to_z w128 (of_z w128 b) ≡ b = omega (arith, ints) in
    rw (x, y) (sum_high w a b few a1 b1)
