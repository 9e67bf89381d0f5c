use Rattle.std.proofs.Common.{◌^◌, length, false, replicate, None, refl, ap, ◌∙◌}
use Rattle.slot_ring.specs.Ring.{ring}
use Rattle.slot_ring.specs.Slots.{held_in}
use Rattle.slot_ring.proofs.Held.{capacity_is, sound-none, held-none, size_vacant}
use Rattle.slot_ring.proofs.ring.SlotRing.with_capacity.Goals as goal

pub invariant_of-result : goal.invariant_of-result
invariant_of-result g c =
    let n = 2 ^ c.args.log2 in let size = capacity_is c.args.log2 c.requires in let b = c.in_ok-slots.ensures in
    let marks = c.in_ok-filled.ensures.items_if_clones_equal (λ y e. e) ∙ ap (λ k. replicate k false) size.0 in let slots = b.0 ∙ ap (λ k. replicate k None) size.0 in (
      rw (slots, marks) (sound-none _ n size.1 size.2 (c.args.log2, refl)),
      b.1,
    )

pub returns : goal.returns
returns g c =
    let n = 2 ^ c.args.log2 in let size = capacity_is c.args.log2 c.requires in let slots = c.in_ok-slots.ensures.0 ∙ ap (λ k. replicate k None) size.0 in
    λ k. ring ((ap length slots ∙ size_vacant _ n) k) ((ap held_in slots ∙ held-none _ n) k)
