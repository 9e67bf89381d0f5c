use Rattle.std.proofs.Common.{◌≡◌, ◌-◌, ◌%◌, length, false, cond, set, Some, None, sym, ap, ◌∙◌, subst, length-set}
use Rattle.slot_ring.specs.Ring.{ring}
use Rattle.slot_ring.specs.Slots.{held_in, IsSound}
use Rattle.slot_ring.proofs.Held.{get-held_at, empty_at, filled_at, long, within, tied, apart, held-take, held-take_none, sound-take}
use Rattle.slot_ring.proofs.ring.SlotRing.take.Goals as goal

pub returns-then-not-index-clause-value : goal.returns-then-not-index-clause-value
returns-then-not-index-clause-value g c =
    let r = c.self.inside in let sound = c.self.invariant.0 in let cs = r.slots.places in let q = c.args.number in let i = c.slot_of-index.result in
    let at = c.slot_of-index.ensures ∙ ap (λ n. q % n) (long cs r.filled.items r.count sound) in
    let none = empty_at cs r.filled.items r.count sound q i at c.index.result.now c.index.ensures c.if-not-index.true in
    rw (← c.self.view_is) (sym (get-held_at cs q i None sound.placed at none))

pub returns-then-not-index-clause-after : goal.returns-then-not-index-clause-after
returns-then-not-index-clause-after g c =
    let r = c.self.inside in let sound = c.self.invariant.0 in let cs = r.slots.places in let q = c.args.number in let i = c.slot_of-index.result in
    let at = c.slot_of-index.ensures ∙ ap (λ n. q % n) (long cs r.filled.items r.count sound) in
    let none = empty_at cs r.filled.items r.count sound q i at c.index.result.now c.index.ensures c.if-not-index.true in
    rw (← c.self.view_is) (ap (ring (length cs)) (sym (held-take_none (held_in cs) q (get-held_at cs q i None sound.placed at none))))

pub get-requires : goal.get-requires
get-requires g c =
    let r = c.self.inside in let sound = c.self.invariant.0 in let cs = r.slots.places in let q = c.args.number in let i = c.slot_of-index.result in
    let at = c.slot_of-index.ensures ∙ ap (λ n. q % n) (long cs r.filled.items r.count sound) in
    filled_at cs r.filled.items r.count sound q i at c.index.result.now c.index.ensures c.if-not-index.false

pub returns-then-get-number-clause-value : goal.returns-then-get-number-clause-value
returns-then-get-number-clause-value g c =
    let r = c.self.inside in let sound = c.self.invariant.0 in let cs = r.slots.places in let q = c.args.number in let i = c.slot_of-index.result in let e = c.get.result.now in
    let at = c.slot_of-index.ensures ∙ ap (λ n. q % n) (long cs r.filled.items r.count sound) in
    rw (← c.self.view_is) (sym (get-held_at cs q i (Some e) sound.placed at c.get.ensures ∙ ap (λ b. cond b (Some e.value) None) (apart q e.number (λ same. c.if-get-number.true (sym same)))))

pub returns-then-get-number-clause-after : goal.returns-then-get-number-clause-after
returns-then-get-number-clause-after g c =
    let r = c.self.inside in let sound = c.self.invariant.0 in let cs = r.slots.places in let q = c.args.number in let i = c.slot_of-index.result in let e = c.get.result.now in
    let at = c.slot_of-index.ensures ∙ ap (λ n. q % n) (long cs r.filled.items r.count sound) in
    let none = get-held_at cs q i (Some e) sound.placed at c.get.ensures ∙ ap (λ b. cond b (Some e.value) None) (apart q e.number (λ same. c.if-get-number.true (sym same))) in
    rw (← c.self.view_is) (ap (ring (length cs)) (sym (held-take_none (held_in cs) q none)))

pub invariant_of-self : goal.invariant_of-self
invariant_of-self g c =
    let r = c.self.inside in let sound = c.self.invariant.0 in let cs = r.slots.places in let i = c.slot_of-index.result in let now = c.read-value.ensures.1 in (
      subst (λ l. IsSound l (set r.filled.items i false) (r.count - 1)) (sym now) (sound-take cs r.filled.items r.count i c.get.result.now sound c.get.ensures),
      c.read-value.ensures.2 ∙ c.self.invariant.1,
    )

pub returns-clause-value : goal.returns-clause-value
returns-clause-value g c =
    let r = c.self.inside in let sound = c.self.invariant.0 in let cs = r.slots.places in let q = c.args.number in let i = c.slot_of-index.result in let e = c.get.result.now in
    let at = c.slot_of-index.ensures ∙ ap (λ n. q % n) (long cs r.filled.items r.count sound) in
    let both : Some c.read-value.result ≡ Some e = sym c.read-value.ensures.0 ∙ c.get.ensures in let same : c.read-value.result ≡ e = cc in
    rw (← c.self.view_is) (ap (λ x. Some x.value) same
    ∙ sym (get-held_at cs q i (Some e) sound.placed at c.get.ensures ∙ ap (λ b. cond b (Some e.value) None) (tied q e.number (sym c.if-get-number.false))))

pub returns-clause-after : goal.returns-clause-after
returns-clause-after g c =
    let r = c.self.inside in let sound = c.self.invariant.0 in let cs = r.slots.places in let q = c.args.number in let i = c.slot_of-index.result in let now = c.read-value.ensures.1 in
    let at = c.slot_of-index.ensures ∙ ap (λ n. q % n) (long cs r.filled.items r.count sound) in
    rw (← c.self.view_is) (λ k. ring ((ap length now ∙ length-set cs i None) k)
    ((ap held_in now ∙ held-take cs q i (within cs r.filled.items r.count sound q i at) at sound.placed c.get.result.now c.get.ensures c.if-get-number.false) k))
