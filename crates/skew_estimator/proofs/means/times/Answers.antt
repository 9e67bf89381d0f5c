use Rattle.std.proofs.Common.{◌≡◌, ◌*◌, ◌∙◌, ap, arith, to_z, of_z}
use mir.Syntax.{w128}
use Rattle.std.specs.Prelude.{pos, ◌*ℤ◌, ◌≤ℤ◌}
use Rattle.std.proofs.Math.IntN.{neg_ℤ}
use Rattle.std.proofs.lemmas.Int.{ints}
use Rattle.skew_estimator.proofs.Multiples.{times_high, times_low}
use Rattle.skew_estimator.proofs.means.times.Goals as goal

pub returns-clause-above : goal.returns-clause-above
returns-clause-above c =
    let x : to_z w128 (of_z w128 c.args.x) ≡ c.args.x = omega (arith, ints) in
    let value : c.product.result ≡ pos c.args.factor *ℤ c.args.x = c.product.ensures ∙ ap (λ z. pos c.args.factor *ℤ z) x in
    let low : neg_ℤ (pos (c.args.factor * 39614081257132168796771975169)) ≤ℤ c.product.result = rw value (times_low c.args.factor 39614081257132168796771975168 c.args.x c.requires.near.from) in
    omega (arith, ints, low)

pub returns-clause-below : goal.returns-clause-below
returns-clause-below c =
    let x : to_z w128 (of_z w128 c.args.x) ≡ c.args.x = omega (arith, ints) in
    let value : c.product.result ≡ pos c.args.factor *ℤ c.args.x = c.product.ensures ∙ ap (λ z. pos c.args.factor *ℤ z) x in
    let high : c.product.result ≤ℤ pos (c.args.factor * 39614081257132168796771975168) = rw value (times_high c.args.factor 39614081257132168796771975168 c.args.x c.requires.near.to) in
    omega (arith, ints, high)
