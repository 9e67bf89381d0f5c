use Rattle.std.proofs.Common.{◌≡◌, ◌-◌, ◌<◌, ◌≤◌, length, take, ◌∷◌, ap, ◌∙◌, sym, subst, arith, to_z, of_z}
use mir.Syntax.{w128}
use Rattle.std.specs.Prelude.{ℤ, List}
use Rattle.std.specs.Int.{int_min}
use Rattle.std.proofs.lemmas.Int.{ints}
use Rattle.skew_model.specs.Skew.{least}
use Rattle.skew_estimator.proofs.Least.{added, length-most, near-take, near-least, least-room, least-full}
use Rattle.skew_estimator.proofs.window.Window.add.Goals as goal
use Rattle.skew_estimator.proofs.window.Window.add.Goals.{then-len-most, else-len-most}

pub invariant_of-self : goal.invariant_of-self
invariant_of-self c =
    let w = c.self.inside in let xs = w.differences.items in let inv = c.self.invariant in let d = c.args.difference in let n = c.args.most in
    let kept : to_z w128 (of_z w128 d) ≡ d = omega (arith, ints) in
    let le = c.requires.most.1 in let now = c.self.view_is in
    let some : 0 < length xs = subst (λ (l : List ℤ). 0 < length l) (sym now) c.requires.few.0 in
    let few : length xs ≤ n = subst (λ (l : List ℤ). length l ≤ n) (sym now) c.requires.few.1 in
    let items = ap (λ b. b.items) c.truncate_back.ensures ∙ ap (λ b. take n b.items) c.push_front.ensures.items ∙ ap (λ z. take n (take w.differences.capacity (z ∷ xs))) kept ∙ ap (λ m. take n (take m (d ∷ xs))) inv.0 ∙ added n d xs le in
    let most = length-most n (d ∷ xs) in
    let near = near-least xs inv.3 in let is = inv.2 in let from = near.from in let to = near.to in let old : to_z w128 (of_z w128 w.least) ≡ w.least = omega (arith, ints) in (
      ap (λ b. b.capacity) c.truncate_back.ensures ∙ ap (λ b. b.capacity) c.push_front.ensures.items ∙ inv.0,
      rw items (omega arith),
      rw items (elim c.if-len-most.branch [
        | then-len-most u ↦ let r = u.min-least.result in let fits = u.min-least.type_inv in let same : to_z w128 (of_z w128 r) ≡ r = omega (arith, ints) in
            let room = u.if-len-most.true in let len = c.len.ensures.len in
            u.least-is ∙ same ∙ u.min-least.ensures.value ∙ (λ k. int_min ((old ∙ inv.2) k) (kept k)) ∙ least-room n d xs some (omega arith)
        | else-len-most u ↦ let r = u.least_without_last-least.result in let fits = u.least_without_last-least.type_inv in let same : to_z w128 (of_z w128 r) ≡ r = omega (arith, ints) in
            let full = u.if-len-most.false in let len = c.len.ensures.len in
            u.least-is ∙ same ∙ u.least_without_last-least.ensures ∙ ap (λ z. least (z ∷ take (length xs - 1) xs)) kept ∙ least-full n d xs some (omega arith)
      ]),
      rw items (near-take n (d ∷ xs) (c.requires.near, inv.3)),
    )

pub returns : goal.returns
returns c =
    let w = c.self.inside in let xs = w.differences.items in let inv = c.self.invariant in let d = c.args.difference in let n = c.args.most in
    let kept : to_z w128 (of_z w128 d) ≡ d = omega (arith, ints) in
    rw (← c.self.view_is) (ap (λ b. b.items) c.truncate_back.ensures ∙ ap (λ b. take n b.items) c.push_front.ensures.items ∙ ap (λ z. take n (take w.differences.capacity (z ∷ xs))) kept ∙ ap (λ m. take n (take m (d ∷ xs))) inv.0 ∙ added n d xs c.requires.most.1)
