use Rattle.std.proofs.Common.{◌≤◌, length, List, arith, sym, subst}
use Rattle.rtcp_wire.specs.declared.packet.Nack.{Nack}
use Rattle.rtcp_wire.specs.Laws.{length-entries}
use Rattle.rtcp_wire.proofs.tests.nack_datagram.Goals as goal

pub write_compound-requires : goal.write_compound-requires
write_compound-requires c =
    let few : length c.from_vec-list.result ≤ length c.args.numbers.now = subst (λ (es : List Nack). length es ≤ length c.args.numbers.now) (sym c.from_vec-list.ensures) c.in_ok-nacks.ensures.count in
    record { begins = (omega arith, omega arith); each = (record { body = tt; words = omega (arith, few, length-entries c.from_vec-list.result, c.requires) }, tt) }
