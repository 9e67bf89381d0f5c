use Rattle.std.proofs.Common.{◌+◌, ◌%◌, length, true, set, Some, sym, ap, ◌∙◌, subst, length-set}
use Rattle.slot_ring.specs.Ring.{ring}
use Rattle.slot_ring.specs.Slots.{held_in, IsSound}
use Rattle.slot_ring.proofs.Held.{empty_at, filled_at, long, taken, not_taken, within, held-put, sound-put}
use Rattle.slot_ring.proofs.ring.SlotRing.put.Goals as goal

pub returns-then-index-clause-exactly : goal.returns-then-index-clause-exactly
returns-then-index-clause-exactly g c =
    let r = c.self.inside in let sound = c.self.invariant.0 in let cs = r.slots.places in let q = c.args.number in let i = c.slot_of-index.result in
    let at = c.slot_of-index.ensures ∙ ap (λ n. q % n) (long cs r.filled.items r.count sound) in
    let e = filled_at cs r.filled.items r.count sound q i at c.index.result.now c.index.ensures c.if-index.true in
    rw (← c.self.view_is) (λ _. taken cs q i e.0 sound.placed at e.1, λ _ _. true)

pub invariant_of-self : goal.invariant_of-self
invariant_of-self g c =
    let r = c.self.inside in let sound = c.self.invariant.0 in let cs = r.slots.places in let q = c.args.number in let i = c.slot_of-index.result in
    let at = c.slot_of-index.ensures ∙ ap (λ n. q % n) (long cs r.filled.items r.count sound) in
    let none = empty_at cs r.filled.items r.count sound q i at c.index.result.now c.index.ensures c.if-index.false in let now = c.write.ensures.0 in (
      subst (λ l. IsSound l (set r.filled.items i true) (r.count + 1)) (sym now) (sound-put cs r.filled.items r.count i (record { number = q; value = c.args.value }) sound at none),
      c.write.ensures.1 ∙ c.self.invariant.1,
    )

pub returns-clause-exactly : goal.returns-clause-exactly
returns-clause-exactly g c =
    let r = c.self.inside in let sound = c.self.invariant.0 in let cs = r.slots.places in let q = c.args.number in let i = c.slot_of-index.result in
    let at = c.slot_of-index.ensures ∙ ap (λ n. q % n) (long cs r.filled.items r.count sound) in
    let none = empty_at cs r.filled.items r.count sound q i at c.index.result.now c.index.ensures c.if-index.false in
    rw (← c.self.view_is) (λ h. absurd cc, λ t. absurd (not_taken cs q i sound.placed at none t))

pub returns-clause-ok : goal.returns-clause-ok
returns-clause-ok g c =
    let r = c.self.inside in let sound = c.self.invariant.0 in let cs = r.slots.places in let q = c.args.number in let i = c.slot_of-index.result in
    let at = c.slot_of-index.ensures ∙ ap (λ n. q % n) (long cs r.filled.items r.count sound) in
    let none = empty_at cs r.filled.items r.count sound q i at c.index.result.now c.index.ensures c.if-index.false in let now = c.write.ensures.0 in
    rw (← c.self.view_is) (λ k. ring ((ap length now ∙ length-set cs i (Some (record { number = q; value = c.args.value }))) k)
    ((ap held_in now ∙ held-put cs q i (within cs r.filled.items r.count sound q i at) at sound.placed c.args.value none) k))
