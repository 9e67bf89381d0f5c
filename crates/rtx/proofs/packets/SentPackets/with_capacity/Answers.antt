use Rattle.std.proofs.Common.{◌<◌, [], length, sym, ◌∙◌, subst, arith}
use Rattle.rtx.specs.Places.{IsIndexed}
use Rattle.rtx.proofs.packets.SentPackets.with_capacity.Goals as goal

pub invariant_of-result : goal.invariant_of-result
invariant_of-result c =
    let added_with = c.in_ok-from_elem.field-0 in
    subst (λ b. IsIndexed b 0 added_with.items) (sym c.in_ok-with_capacity.ensures) (record {
      few = omega arith;
      room = omega (arith, c.from.ensures, c.ranges.most);
      long = sym added_with.ok.0 ∙ c.in_ok-from_elem.ensures.len;
      counted = λ seq within. absurd (omega arith);
    })
