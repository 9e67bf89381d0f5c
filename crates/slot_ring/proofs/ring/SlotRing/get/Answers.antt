use Rattle.std.proofs.Common.{◌%◌, cond, Some, None, sym, ap, ◌∙◌}
use Rattle.std.specs.FinMap as map
use Rattle.slot_ring.proofs.Held.{get-held_at, empty_at, filled_at, long, tied, apart}
use Rattle.slot_ring.proofs.ring.SlotRing.get.Goals as goal

pub returns-then-not-index : goal.returns-then-not-index
returns-then-not-index g c =
    let r = c.self.inside in let sound = c.self.invariant.0 in let q = c.args.number in
    let i = c.slot_of-index.result in let at = c.slot_of-index.ensures ∙ ap (λ n. q % n) (long r.slots.places r.filled.items r.count sound) in
    let none = empty_at r.slots.places r.filled.items r.count sound q i at c.index.result.now c.index.ensures c.if-not-index.true in
    sym (ap (λ v. map.get v.held q) (sym c.self.view_is) ∙ get-held_at r.slots.places q i None sound.placed at none)

pub get-entry-requires : goal.get-entry-requires
get-entry-requires g c =
    let r = c.self.inside in let sound = c.self.invariant.0 in let q = c.args.number in
    let i = c.slot_of-index.result in let at = c.slot_of-index.ensures ∙ ap (λ n. q % n) (long r.slots.places r.filled.items r.count sound) in
    filled_at r.slots.places r.filled.items r.count sound q i at c.index.result.now c.index.ensures c.if-not-index.false

pub returns-then-entry-number : goal.returns-then-entry-number
returns-then-entry-number g c =
    let r = c.self.inside in let sound = c.self.invariant.0 in let q = c.args.number in let e = c.get-entry.result.now in
    let i = c.slot_of-index.result in let at = c.slot_of-index.ensures ∙ ap (λ n. q % n) (long r.slots.places r.filled.items r.count sound) in
    sym (ap (λ v. map.get v.held q) (sym c.self.view_is) ∙ get-held_at r.slots.places q i (Some e) sound.placed at c.get-entry.ensures
    ∙ ap (λ b. cond b (Some e.value) None) (apart q e.number (λ same. c.if-entry-number.true (sym same))))

pub returns : goal.returns
returns g c =
    let r = c.self.inside in let sound = c.self.invariant.0 in let q = c.args.number in let e = c.get-entry.result.now in
    let i = c.slot_of-index.result in let at = c.slot_of-index.ensures ∙ ap (λ n. q % n) (long r.slots.places r.filled.items r.count sound) in
    sym (ap (λ v. map.get v.held q) (sym c.self.view_is) ∙ get-held_at r.slots.places q i (Some e) sound.placed at c.get-entry.ensures
    ∙ ap (λ b. cond b (Some e.value) None) (tied q e.number (sym c.if-entry-number.false)))
