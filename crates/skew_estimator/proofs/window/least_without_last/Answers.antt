use Rattle.std.proofs.Common.{◌≡◌, ◌+◌, ◌-◌, length, ap, sym, ◌∙◌, arith, to_z, of_z}
use Rattle.std.specs.Prelude.{slice_get}
use mir.Syntax.{w128}
use Rattle.std.proofs.lemmas.Int.{ints}
use Rattle.skew_estimator.proofs.Least.{least-without_new, least-without_old}
use Rattle.skew_estimator.proofs.window.least_without_last.Goals as goal

pub returns-then-difference-least : goal.returns-then-difference-least
returns-then-difference-least c =
    let xs = c.args.differences.now.items in let d = c.args.difference in let l = c.args.least in let some = c.requires.some in
    let kept : to_z w128 (of_z w128 d) ≡ d = omega (arith, ints) in
    let size : length xs ≡ length xs - 1 + 1 = omega arith in
    kept ∙ sym (least-without_new d l xs (length xs - 1) c.requires.least size (omega (arith, ints, c.if-difference-least.true)))

pub returns-then-oldest-least : goal.returns-then-oldest-least
returns-then-oldest-least c =
    let xs = c.args.differences.now.items in let d = c.args.difference in let l = c.args.least in let some = c.requires.some in
    let kept : to_z w128 (of_z w128 l) ≡ l = omega (arith, ints) in
    let size : length xs ≡ length xs - 1 + 1 = omega arith in
    kept ∙ sym (least-without_old d c.difference_at-oldest.result l xs (length xs - 1) c.requires.least size (ap (λ n. slice_get xs (n - 1)) (sym c.len-end.ensures.len) ∙ c.difference_at-oldest.ensures) (omega (arith, ints, c.if-difference-least.false)) (omega (arith, ints, c.if-oldest-least.true)))
