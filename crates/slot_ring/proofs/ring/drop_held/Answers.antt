use Rattle.std.proofs.Common.{◌<◌, length, map, get_or, is_some, replicate, None, sym, ap, ◌∙◌, arith, length-set}
use Rattle.std.proofs.lemmas.List.{length-map}
use Rattle.slot_ring.proofs.Held.{filled_here, empty_here, marked_none, below_emptied, below_empty, all_none, marks_none}
use Rattle.slot_ring.proofs.ring.drop_held.Goals as goal
use Rattle.slot_ring.proofs.ring.drop_held.Goals.{then-index, else-index}

pub read-requires : goal.read-requires
read-requires g c =
    let l = c.loop-index in let inv = l.invariant in
    let marks = ap length inv.marked ∙ length-map l.slots.places is_some in let first = ap length c.requires.marked ∙ length-map c.args.slots.now.places is_some in
    filled_here l.slots.places l.filled.items l.index inv.marked (omega arith) c.index.result.now c.index.ensures c.if-index.true

pub loop-index-preserved : goal.loop-index-preserved
loop-index-preserved g c =
    let l = c.loop-index in let cs = l.slots.places in let inv = l.invariant in let i = l.index in
    let marks = ap length inv.marked ∙ length-map cs is_some in let first = ap length c.requires.marked ∙ length-map c.args.slots.now.places is_some in
    elim c.if-index.branch [
      | then-index w ↦
          let now = ap (λ x. x.places) w.slots-is ∙ w.read.ensures.1 in let lt : i < length l.filled.items = omega arith in
          record {
            lender = ap (λ x. x.lender) w.slots-is ∙ w.read.ensures.2 ∙ inv.lender;
            marked = ap (λ v. v.items) w.filled-is ∙ marked_none cs l.filled.items i inv.marked lt ∙ sym (ap (map is_some) now);
            long = ap length now ∙ length-set cs i None ∙ inv.long;
            below = λ k less. ap (λ s. get_or s k None) now ∙ below_emptied cs l.filled.items i inv.marked lt inv.below k less;
          }
      | else-index w ↦
          let now = ap (λ x. x.places) w.slots-is in let lt : i < length l.filled.items = omega arith in
          let none = empty_here cs l.filled.items i inv.marked lt c.index.result.now c.index.ensures w.if-index.false in
          record {
            lender = ap (λ x. x.lender) w.slots-is ∙ inv.lender;
            marked = ap (λ v. v.items) w.filled-is ∙ inv.marked ∙ sym (ap (map is_some) now);
            long = ap length now ∙ inv.long;
            below = λ k less. ap (λ s. get_or s k None) now ∙ below_empty cs l.filled.items i inv.marked lt inv.below none k less;
          }
    ]

pub returns-clause-empty : goal.returns-clause-empty
returns-clause-empty g c =
    let l = c.loop-index in let inv = l.invariant in
    let first = ap length c.requires.marked ∙ length-map c.args.slots.now.places is_some in
    all_none l.slots.places (λ k lt. inv.below k (omega arith)) ∙ ap (λ n. replicate n None) inv.long

pub returns-clause-marks : goal.returns-clause-marks
returns-clause-marks g c =
    let l = c.loop-index in let inv = l.invariant in
    let first = ap length c.requires.marked ∙ length-map c.args.slots.now.places is_some in
    let none = all_none l.slots.places (λ k lt. inv.below k (omega arith)) ∙ ap (λ n. replicate n None) inv.long in
    inv.marked ∙ ap (map is_some) none ∙ sym (marks_none _ (length c.args.slots.now.places))
