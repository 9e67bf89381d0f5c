use Rattle.std.proofs.Common.{◌≡◌, length, replicate, None, sym, ap, ◌∙◌}
use Rattle.slot_ring.proofs.Held.{none_held, long}
use Rattle.slot_ring.proofs.ring.SlotRing.free.Goals as goal

pub free-requires : goal.free-requires
free-requires g c =
    let r = c.self.inside in let sound = c.self.invariant.0 in let cs = r.slots.places in
    let size : length cs ≡ c.len.result = sym (c.len.ensures ∙ r.filled.ok.0 ∙ long cs r.filled.items r.count sound) in (
      none_held cs sound.placed (ap (λ v. v.held) c.self.view_is ∙ c.requires) ∙ ap (λ n. replicate n None) size,
      c.self.invariant.1,
    )
