use Rattle.std.proofs.Common.{sym, ◌∙◌}
use Rattle.slot_ring.proofs.Held.{len-held}
use Rattle.slot_ring.proofs.ring.SlotRing.len.Goals as goal

pub returns-clause-len : goal.returns-clause-len
returns-clause-len g c = let sound = c.self.invariant.0 in rw (← c.self.view_is) (sound.counted ∙ sym (len-held c.self.inside.slots.places sound.placed))
