use Rattle.std.proofs.Common.{min, List, ℕ}
use Rattle.rtp_io.specs.Memory.{held_to}
use Rattle.std.proofs.Common.{rules, arith, ◌≡◌, ◌∙◌, ◌++◌, ap, refl, take, drop, length, ◌≤◌}
use Rattle.std.proofs.lemmas.List.{take_at, length-take-le}
use Rattle.rtp_io.specs.declared.shelf.Shelf.{Shelf}
use Rattle.rtp_io.proofs.Shelves.{gives_piece}
use Rattle.rtp_io.proofs.shelf.Shelf.give.Goals as goal

pub returns-clause-gives : goal.returns-clause-gives
returns-clause-gives c = λ p.
    let size = c.at_most-size.result in
    let left = c.left-left.result.now in
    let fits : size ≤ length left = omega (arith, c.at_most-size.ensures.bound, c.min.ensures) in
    let copied : c.copy_from_slice.new.self ≡ take size left = search (rules, c.copy_from_slice.ensures.after) in
    let len : length c.copy_from_slice.new.self ≡ size = ap length copied ∙ length-take-le size left fits in
    let piece : take size (c.copy_from_slice.new.self ++ drop size c.args.buf.now) ≡ take size left = take_at c.copy_from_slice.new.self (drop size c.args.buf.now) size len ∙ copied in
    let new : Shelf = record c.args.self.now { position = c.moved-self.result } in
    gives_piece p c.args.self.now new size left _ (c.left-left.ensures.left p) piece refl refl c.moved-self.ensures (λ some. c.at_most-size.ensures.some (omega (arith, c.requires, some, c.min.ensures))) fits

pub returns-clause-size : goal.returns-clause-size
returns-clause-size c = λ p.
    c.at_most-size.ensures.exact
    ∙ ap (held_to c.args.self.now.step) (c.min.ensures ∙ ap (λ (xs : List ℕ). min (length c.args.buf.now) (length xs)) (c.left-left.ensures.left p))
