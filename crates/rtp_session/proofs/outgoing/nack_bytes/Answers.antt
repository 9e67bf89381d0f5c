use Rattle.std.proofs.Common.{◌≡◌, ◌≤◌, List, length, sym, subst, arith}
use Rattle.rtcp_wire.specs.declared.packet.Nack.{Nack}
use Rattle.rtp_session.proofs.Parting.{nacks_fit}
use Rattle.rtp_session.proofs.outgoing.nack_bytes.Goals as goal

pub write_compound-requires : goal.write_compound-requires
write_compound-requires c =
    let few : length c.in_ok-nacks.field-0.items ≤ 8192 = omega (arith, c.in_ok-nacks.ensures.count) in
    nacks_fit c.args.own c.args.media c.from_vec-list.result (subst (λ (l : List Nack). length l ≤ 8192) (sym c.from_vec-list.ensures) few)
