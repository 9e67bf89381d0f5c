use Rattle.std.proofs.Common.{◌≡◌, ◌∙◌, refl, sym, ap, subst}
use Rattle.std.specs.Prelude.{OnOk}
use Rattle.std.proofs.lemmas.Result.{on_ok_weaker}
use Rattle.rtp_wire.specs.View.{packet_of}
use Rattle.front_model.specs.Records.{Holding}
use Rattle.rtp_front.specs.Standing.{TakesHolding, sent_as}
use Rattle.rtp_front.proofs.Holding.{as_compound, as_packet, as_bad}
use Rattle.rtp_front.proofs.intake.Intake.take_payload.Goals as goal

pub returns-then-is_rtcp-clause-takes : goal.returns-then-is_rtcp-clause-takes
returns-then-is_rtcp-clause-takes c = λ k older stands.
    let sent = sent_as c.args.datagram.now in
    subst
    (λ (h : Holding). OnOk c.take_compound.result
    (TakesHolding k c.args.time older h c.args.steps.now.items c.take_compound.new.steps.items
    c.take_compound.new.self))
    (as_compound c.args.line.now sent
    (sym (c.is_rtcp.ensures sent refl refl) ∙ c.if-is_rtcp.true))
    (c.take_compound.ensures.takes k older stands)

pub returns-in-Ok-clause-takes : goal.returns-in-Ok-clause-takes
returns-in-Ok-clause-takes c = λ k older stands.
    let sent = sent_as c.args.datagram.now in
    let found = c.in-Ok.ensures.found in
    let law = c.packets_are_their_bytes.ensures c.in-Ok.view found.0 in
    subst
    (λ (h : Holding). OnOk c.take_packet.result
    (TakesHolding k c.args.time older h c.args.steps.now.items c.take_packet.new.steps.items
    c.take_packet.new.self))
    (as_packet c.args.line.now sent c.in-Ok.view
    (sym (c.is_rtcp.ensures sent refl refl) ∙ c.if-is_rtcp.false) c.in-Ok.ensures.fault
    (law.1 ∙ ap packet_of found.1))
    (c.take_packet.ensures.takes k older stands)

pub returns-in-Err-clause-takes : goal.returns-in-Err-clause-takes
returns-in-Err-clause-takes c = λ k older stands.
    let sent = sent_as c.args.datagram.now in
    on_ok_weaker c.tell_bad_packet.result
    (λ told.
    subst
    (λ (h : Holding). TakesHolding k c.args.time older h c.args.steps.now.items
    c.tell_bad_packet.new.steps.items c.args.self.now)
    (as_bad c.args.line.now sent c.in-Err.fault
    (sym (c.is_rtcp.ensures sent refl refl) ∙ c.if-is_rtcp.false) c.in-Err.ensures.fault)
    (record { steps = told; stands = stands }))
    c.tell_bad_packet.ensures
