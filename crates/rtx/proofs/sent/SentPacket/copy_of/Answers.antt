use Rattle.std.proofs.Common.{◌≡◌, ◌∙◌, List, ℕ, sym, ap}
use Rattle.rtp_wire.specs.Network.{number16}
use Rattle.rtp_wire.specs.Packet.{first_fault}
use Rattle.rtp_wire.specs.View.{packet_of}
use Rattle.rtx.proofs.sent.SentPacket.copy_of.Goals as goal

pub invariant_of-result : goal.invariant_of-result
invariant_of-result c =
    let same : c.in_ok-copy_of.field-0 ≡ c.args.view.now.bytes = c.in_ok-copy_of.ensures ∙ c.bytes.ensures.value in
    let packet = c.bytes.ensures.packet in
    let shown = c.packets_are_their_bytes.ensures c.args.view.now packet in
    (ap first_fault same ∙ shown.0, c.seq.ensures ∙ packet.seq ∙ ap (λ (b : List ℕ). number16 b 2) (sym same))

pub returns : goal.returns
returns c =
    let same : c.in_ok-copy_of.field-0 ≡ c.args.view.now.bytes = c.in_ok-copy_of.ensures ∙ c.bytes.ensures.value in
    ap packet_of same ∙ sym (c.packets_are_their_bytes.ensures c.args.view.now c.bytes.ensures.packet).1
