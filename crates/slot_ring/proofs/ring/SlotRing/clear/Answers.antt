use Rattle.std.proofs.Common.{length, sym, ap, ◌∙◌}
use Rattle.slot_ring.specs.Ring.{ring}
use Rattle.slot_ring.specs.Slots.{held_in}
use Rattle.slot_ring.proofs.Held.{len-held, sound-none, held-none, size_vacant}
use Rattle.slot_ring.proofs.ring.SlotRing.clear.Goals as goal

pub invariant_of-self : goal.invariant_of-self
invariant_of-self g c =
    let r = c.self.inside in let sound = c.self.invariant.0 in let n = length r.slots.places in let now = c.drop_held.ensures.empty in (
      rw (now, c.drop_held.ensures.marks) (sound-none _ n sound.some sound.few sound.power),
      c.drop_held.ensures.lender ∙ c.self.invariant.1,
    )

pub returns-clause-count : goal.returns-clause-count
returns-clause-count g c = let sound = c.self.invariant.0 in rw (← c.self.view_is) (sound.counted ∙ sym (len-held c.self.inside.slots.places sound.placed))

pub returns-clause-after : goal.returns-clause-after
returns-clause-after g c =
    let n = length c.self.inside.slots.places in let now = c.drop_held.ensures.empty in
    rw (← c.self.view_is) (λ k. ring ((ap length now ∙ size_vacant _ n) k) ((ap held_in now ∙ held-none _ n) k))
