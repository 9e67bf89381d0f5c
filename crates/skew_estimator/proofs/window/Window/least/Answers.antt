use Rattle.std.proofs.Common.{◌≡◌, arith, to_z, of_z}
use mir.Syntax.{w128}
use Rattle.std.proofs.lemmas.Int.{ints}
use Rattle.skew_estimator.proofs.Least.{near-least}
use Rattle.skew_estimator.proofs.window.Window.least.Goals as goal

pub returns-clause-near : goal.returns-clause-near
returns-clause-near c =
    let w = c.self.inside in let near = near-least w.differences.items c.self.invariant.3 in let is = c.self.invariant.2 in let from = near.from in let to = near.to in
    let kept : to_z w128 (of_z w128 w.least) ≡ w.least = omega (arith, ints) in rw (kept, is) near
