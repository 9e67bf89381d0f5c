use Rattle.std.proofs.Common.{◌≡◌, ◌++◌, List, refl, ap, sym, subst, ◌∙◌}
use Rattle.std.specs.Prelude.{IfOk}
use Rattle.rtcp_wire.specs.Compound.{compound_of}
use Rattle.rtp_wire.specs.Packet.{first_fault}
use Rattle.front_model.specs.Records.{Holding}
use Rattle.rtx.specs.Answering.{Call}
use Rattle.nack_answering.specs.Asking.{requests_in}
use Rattle.nack_answering.specs.Standing.{StandsFor, remembered_in, sent_as}
use Rattle.nack_answering.proofs.Holding.{as_compound, as_packet, nothing_remembered, nothing_asked, on_ok}
use Rattle.nack_answering.proofs.answering.Answering.take_datagram.Goals as goal

pub returns-then-is_rtcp-clause-requests : goal.returns-then-is_rtcp-clause-requests
returns-then-is_rtcp-clause-requests c =
    let sent = sent_as c.args.datagram.now in
    let is =
    as_compound _ c.in-Some.line sent (sym c.session_at.ensures ∙ c.in-Some.is)
    (sym (c.is_rtcp.ensures sent refl refl) ∙ c.if-is_rtcp.true) in
    subst (λ (h : Holding). IfOk c.listed_requests.result (λ requests. requests.items ≡ requests_in h))
    (sym is) c.listed_requests.ensures

pub returns-then-is_rtcp-clause-stands : goal.returns-then-is_rtcp-clause-stands
returns-then-is_rtcp-clause-stands c = λ calls stands.
    let sent = sent_as c.args.datagram.now in
    let is =
    as_compound _ c.in-Some.line sent (sym c.session_at.ensures ∙ c.in-Some.is)
    (sym (c.is_rtcp.ensures sent refl refl) ∙ c.if-is_rtcp.true) in
    let none =
    ap remembered_in is ∙ nothing_remembered c.in-Some.line.session (compound_of sent.payload) in
    on_ok c.listed_requests.result
    (subst (λ (l : List Call). StandsFor c.args.self.now (l ++ calls)) (sym none) stands)

pub returns-clause-requests : goal.returns-clause-requests
returns-clause-requests c =
    let sent = sent_as c.args.datagram.now in
    let is =
    as_packet _ c.in-Some.line sent (sym c.session_at.ensures ∙ c.in-Some.is)
    (sym (c.is_rtcp.ensures sent refl refl) ∙ c.if-is_rtcp.false) in
    c.new-2.ensures.items
    ∙ sym (ap requests_in is
    ∙ nothing_asked c.in-Some.line.session sent.from sent.payload (first_fault sent.payload))

pub returns-clause-stands : goal.returns-clause-stands
returns-clause-stands c = λ calls stands.
    let sent = sent_as c.args.datagram.now in
    let is =
    as_packet _ c.in-Some.line sent (sym c.session_at.ensures ∙ c.in-Some.is)
    (sym (c.is_rtcp.ensures sent refl refl) ∙ c.if-is_rtcp.false) in
    subst (λ (h : Holding). StandsFor c.remember.new.self (remembered_in h ++ calls)) (sym is)
    (c.in_ok-remember.ensures.stands calls sent refl stands)
