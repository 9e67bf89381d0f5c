use Rattle.std.proofs.Common.{◌≡◌, List, drop, subst, sym, ◌∙◌}
use Rattle.rtp_io.specs.declared.shelf.Entry.{Entry}
use Rattle.rtp_io.specs.Memory.{find, IsPlace}
use Rattle.rtp_io.proofs.Shelves.{is_place}
use Rattle.rtp_io.proofs.shelf.Shelf.place_of.Goals as goal

pub returns-then-eq-clause-found : goal.returns-then-eq-clause-found
returns-then-eq-clause-found c =
    let name = c.args.name.now in
    let place = c.loop-place.place in
    let items = c.deref-entry-items.ensures.value in
    let so_far = subst (λ (es : List Entry). find (drop place es) name ≡ find es name) (sym items) c.loop-place.invariant in
    subst (λ (es : List Entry). IsPlace es name place) items
    (is_place c.deref-entry-items.result.now name c.as_str.result.now place c.entry-item.result c.loop-place-test.true c.entry-item.is c.as_str.ensures.value (sym c.eq.ensures ∙ c.if-eq.true) so_far)
