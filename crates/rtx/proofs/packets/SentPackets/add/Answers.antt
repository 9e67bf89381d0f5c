use Rattle.std.proofs.Common.{◌<◌, ◌+◌, ◌%◌, slice_set, arith, sym, ◌∙◌, subst}
use Rattle.rtx.specs.Places.{IsIndexed}
use Rattle.rtx.specs.Sending.{pushed}
use Rattle.rtx.proofs.Indexed.{indexed_pushed}
use Rattle.rtx.proofs.packets.SentPackets.add.Goals as goal

pub invariant_of-self : goal.invariant_of-self
invariant_of-self c =
    let s = c.self.inside in
    let added = (s.added + 1) % 65536 in
    let seq = c.from.ensures ∙ c.seq.ensures in
    let small : c.args.sent.seq < 65536 = omega (arith, c.seq.ensures, c.seq.type_inv) in
    subst (λ b. IsIndexed b added (slice_set s.added_with.items c.from.result added))
    (sym c.push_front.ensures.items)
    (subst (λ n. IsIndexed (pushed c.args.sent s.packets) added
    (slice_set s.added_with.items n added))
    (sym seq) (indexed_pushed s.packets s.added s.added_with.items c.args.sent
    c.self.invariant small))
