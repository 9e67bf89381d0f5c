use Rattle.std.proofs.Common.{◌≡◌, ◌≤◌, ◌∙◌, ℕ, List, length, sym, ap, subst}
use Rattle.rtp_wire.specs.Packet.{first_fault}
use Rattle.rtp_wire.specs.View.{packet_of}
use Rattle.front_model.specs.Probation.{kept_at}
use Rattle.rtp_session.proofs.kept.Kept.copy_of.Goals as goal

pub invariant_of-result : goal.invariant_of-result
invariant_of-result c =
    let law = c.packets_are_their_bytes.ensures c.args.view.now c.bytes.ensures.packet in
    let same : c.in_ok-copy_of.field-0 ≡ c.args.view.now.bytes = c.in_ok-copy_of.ensures ∙ c.bytes.ensures.value in
    (ap first_fault same ∙ law.0, subst (λ (b : List ℕ). length b ≤ 65535) (sym same) c.requires)

pub returns : goal.returns
returns c =
    let law = c.packets_are_their_bytes.ensures c.args.view.now c.bytes.ensures.packet in
    ap (kept_at c.args.now) (ap packet_of (c.in_ok-copy_of.ensures ∙ c.bytes.ensures.value) ∙ sym law.1)
