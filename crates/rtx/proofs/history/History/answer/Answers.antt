use Rattle.std.proofs.Common.{◌≡◌, ◌∙◌, ℕ, Some, refl, sym, ap, subst}
use Rattle.std.specs.Option.{option_and_then}
use Rattle.std.specs.Map.{lookup}
use Rattle.rtp_wire.specs.Packet.{Packet, IsPacket}
use Rattle.rtx.specs.Sending.{Sending, is_stream, latest_in, outlet_of, retransmission_packet, retransmission_spelling}
use Rattle.rtx.specs.Answering.{StandsFor}
use Rattle.rtx.proofs.Remembering.{sought_is, answers_some}
use Rattle.rtx.proofs.history.History.answer.Goals as goal

pub returns-clause-answer : goal.returns-clause-answer
returns-clause-answer c = λ s calls stands.
    let h = subst (λ (v : Sending). StandsFor v s calls) (sym c.self.view_is) stands in
    let p = c.view-view.result in
    let o = c.in-Some-outlet_for.outlet in
    let some : option_and_then (λ b. latest_in b.items c.args.seq) (lookup (is_stream (c.args.session, c.args.ssrc)) c.self.inside.streams.entries) ≡ Some p =
    sym c.in-Some.ensures ∙ ap (λ (x : Packet). Some x) (sym c.view-view.ensures)
    in
    let out : Some o ≡ outlet_of c.self.inside.map.lines.items c.self.inside.map.fids.items c.args.session c.args.ssrc p.pt =
    c.in-Some-outlet_for.ensures.value ∙ ap (λ (n : ℕ). outlet_of c.self.inside.map.lines.items c.self.inside.map.fids.items c.args.session c.args.ssrc n) c.pt.ensures.value
    in (
      p,
      o,
      sought_is _ s calls c.args.session c.args.ssrc c.args.seq p (Some o) h some out,
      refl,
      c.in_ok-bytes.ensures.value ∙ ap (λ (n : ℕ). retransmission_spelling o n p) (c.next_number-number.ensures ∙ h.numbers (o.session, o.ssrc)),
      subst (λ (n : ℕ). IsPacket (retransmission_packet o n p c.in_ok-bytes.bytes)) (c.next_number-number.ensures ∙ h.numbers (o.session, o.ssrc)) c.in_ok-bytes.ensures.packet,
    )

pub returns-clause-stands : goal.returns-clause-stands
returns-clause-stands c = λ s calls stands.
    let h = subst (λ (v : Sending). StandsFor v s calls) (sym c.self.view_is) stands in
    let p = c.view-view.result in
    let o = c.in-Some-outlet_for.outlet in
    let some : option_and_then (λ b. latest_in b.items c.args.seq) (lookup (is_stream (c.args.session, c.args.ssrc)) c.self.inside.streams.entries) ≡ Some p =
    sym c.in-Some.ensures ∙ ap (λ (x : Packet). Some x) (sym c.view-view.ensures)
    in
    let out : Some o ≡ outlet_of c.self.inside.map.lines.items c.self.inside.map.fids.items c.args.session c.args.ssrc p.pt =
    c.in-Some-outlet_for.ensures.value ∙ ap (λ (n : ℕ). outlet_of c.self.inside.map.lines.items c.self.inside.map.fids.items c.args.session c.args.ssrc n) c.pt.ensures.value
    in
    answers_some _ _ s calls c.args.session c.args.ssrc c.args.seq p o c.next_number-number.result h (sought_is _ s calls c.args.session c.args.ssrc c.args.seq p (Some o) h some out) refl refl
    (c.next_number-number.ensures ∙ h.numbers (o.session, o.ssrc)) c.in_ok-count_on.ensures.numbers
