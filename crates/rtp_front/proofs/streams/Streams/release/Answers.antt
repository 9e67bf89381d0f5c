use Rattle.std.proofs.Common.{◌≡◌, ◌++◌, ◌∷◌, [], ℕ, true, false, refl, sym, ap, ◌∙◌}
use Rattle.std.proofs.lemmas.Result.{on_ok_weaker}
use Rattle.rtp_wire.specs.Packet.{Packet as View}
use Rattle.rtp_demux.specs.Types.{was_routed}
use Rattle.timeline.specs.declared.line.BinLine.TheVariants as line
use Rattle.timeline.specs.declared.line.Word.TheVariants as word
use Rattle.front_model.specs.declared.Step.TheVariants.{Tell}
use Rattle.front_model.specs.Lanes.{route, routed}
use Rattle.front_model.specs.Types.{rate, is_rtx}
use Rattle.rtp_front.proofs.Moving.{unmapped_lanes, drop_left}
use Rattle.rtp_front.proofs.Stepping.{unmapped_fate, rtx_steps, unmapped_steps, known_steps}
use Rattle.rtp_front.proofs.Stepping.{first_steps, unmapped_rate, known_rate, first_rate}
use Rattle.rtp_front.proofs.streams.Streams.release.Goals as goal

pub returns-then-is_retransmission-clause-steps : goal.returns-then-is_retransmission-clause-steps
returns-then-is_retransmission-clause-steps c = λ d older read left.
    let a = c.args in
    let p = a.kept.packet in
    let of : p.pt ≡ c.pt-pt.result =
    sym (c.pt-pt.ensures.value ∙ ap (λ (v : View). v.pt) c.packet.ensures.value) in
    let rtx : is_rtx d a.session p.pt ≡ true =
    ap (is_rtx d a.session) of ∙ sym (c.is_retransmission.ensures d read)
    ∙ c.if-is_retransmission.true in
    on_ok_weaker _
    (λ h. rtx_steps d a.time older a.session a.kept.stamp p a.steps.now.items
    c.restore.new.steps.items rtx h)
    (c.restore.ensures.steps d older read left rtx)

pub returns-then-is_retransmission-clause-stands : goal.returns-then-is_retransmission-clause-stands
returns-then-is_retransmission-clause-stands c = λ d older read left.
    let a = c.args in
    let p = a.kept.packet in
    let of : p.pt ≡ c.pt-pt.result =
    sym (c.pt-pt.ensures.value ∙ ap (λ (v : View). v.pt) c.packet.ensures.value) in
    let rtx : is_rtx d a.session p.pt ≡ true =
    ap (is_rtx d a.session) of ∙ sym (c.is_retransmission.ensures d read)
    ∙ c.if-is_retransmission.true in
    c.restore.ensures.stands d older read left rtx

pub returns-in-Unmapped-clause-steps : goal.returns-in-Unmapped-clause-steps
returns-in-Unmapped-clause-steps c = λ d older read left.
    let a = c.args in
    let p = a.kept.packet in
    let of : p.pt ≡ c.pt-pt.result =
    sym (c.pt-pt.ensures.value ∙ ap (λ (v : View). v.pt) c.packet.ensures.value) in
    let here : is_rtx d a.session c.pt-pt.result ≡ false =
    sym (c.is_retransmission.ensures d read) ∙ c.if-is_retransmission.false in
    let own : is_rtx d a.session p.pt ≡ false = ap (is_rtx d a.session) of ∙ here in
    let told = c.in-Unmapped.ensures.answer d older left ∙ ap (route d a.session older) (sym of) in
    let rated = unmapped_rate (rate d a.session p.pt) (was_routed (routed d a.session older) p.pt)
    told in
    let stands = c.in-Unmapped.ensures.stands d older a.kept.stamp p left of here in
    on_ok_weaker _
    (λ h. unmapped_steps d a.time older a.session a.kept.stamp p a.steps.now.items
    c.tell_kept_drop.new.steps.items own told rated h)
    c.tell_kept_drop.ensures

pub returns-in-Unmapped-clause-stands : goal.returns-in-Unmapped-clause-stands
returns-in-Unmapped-clause-stands c = λ d older read left.
    let a = c.args in
    let p = a.kept.packet in
    let of : p.pt ≡ c.pt-pt.result =
    sym (c.pt-pt.ensures.value ∙ ap (λ (v : View). v.pt) c.packet.ensures.value) in
    let here : is_rtx d a.session c.pt-pt.result ≡ false =
    sym (c.is_retransmission.ensures d read) ∙ c.if-is_retransmission.false in
    let own : is_rtx d a.session p.pt ≡ false = ap (is_rtx d a.session) of ∙ here in
    let told = c.in-Unmapped.ensures.answer d older left ∙ ap (route d a.session older) (sym of) in
    let rated = unmapped_rate (rate d a.session p.pt) (was_routed (routed d a.session older) p.pt)
    told in
    let stands = c.in-Unmapped.ensures.stands d older a.kept.stamp p left of here in
    on_ok_weaker _
    (λ h. drop_left d older a.session a.kept.stamp p word.Unmapped c.route.new.self c.route.new.self
    stands
    (stands.lanes ∙ sym (unmapped_lanes d older a.session a.kept.stamp p own rated))
    refl refl refl (unmapped_fate d a.time older a.session a.kept.stamp p own rated))
    c.tell_kept_drop.ensures

pub returns-in-Known-clause-steps : goal.returns-in-Known-clause-steps
returns-in-Known-clause-steps c = λ d older read left.
    let a = c.args in
    let p = a.kept.packet in
    let of : p.pt ≡ c.pt-pt.result =
    sym (c.pt-pt.ensures.value ∙ ap (λ (v : View). v.pt) c.packet.ensures.value) in
    let here : is_rtx d a.session c.pt-pt.result ≡ false =
    sym (c.is_retransmission.ensures d read) ∙ c.if-is_retransmission.false in
    let own : is_rtx d a.session p.pt ≡ false = ap (is_rtx d a.session) of ∙ here in
    let told = c.in-Known.ensures.answer d older left ∙ ap (route d a.session older) (sym of) in
    let rated = known_rate (rate d a.session p.pt) (was_routed (routed d a.session older) p.pt) c.in-Known.rate
    told in
    let stands = c.in-Known.ensures.stands d older a.kept.stamp p left of here in
    on_ok_weaker _
    (λ h. known_steps d a.time older a.session a.kept.stamp p c.in-Known.rate a.steps.now.items
    c.give.new.steps.items own told rated h)
    (c.give.ensures.steps d older read stands own rated)

pub returns-in-Known-clause-stands : goal.returns-in-Known-clause-stands
returns-in-Known-clause-stands c = λ d older read left.
    let a = c.args in
    let p = a.kept.packet in
    let of : p.pt ≡ c.pt-pt.result =
    sym (c.pt-pt.ensures.value ∙ ap (λ (v : View). v.pt) c.packet.ensures.value) in
    let here : is_rtx d a.session c.pt-pt.result ≡ false =
    sym (c.is_retransmission.ensures d read) ∙ c.if-is_retransmission.false in
    let own : is_rtx d a.session p.pt ≡ false = ap (is_rtx d a.session) of ∙ here in
    let told = c.in-Known.ensures.answer d older left ∙ ap (route d a.session older) (sym of) in
    let rated = known_rate (rate d a.session p.pt) (was_routed (routed d a.session older) p.pt) c.in-Known.rate
    told in
    let stands = c.in-Known.ensures.stands d older a.kept.stamp p left of here in
    c.give.ensures.stands d older read stands own rated

pub returns-in_ok-push-in-First-clause-steps : goal.returns-in_ok-push-in-First-clause-steps
returns-in_ok-push-in-First-clause-steps c = λ d older read left.
    let a = c.args in
    let p = a.kept.packet in
    let of : p.pt ≡ c.pt-pt.result =
    sym (c.pt-pt.ensures.value ∙ ap (λ (v : View). v.pt) c.packet.ensures.value) in
    let here : is_rtx d a.session c.pt-pt.result ≡ false =
    sym (c.is_retransmission.ensures d read) ∙ c.if-is_retransmission.false in
    let own : is_rtx d a.session p.pt ≡ false = ap (is_rtx d a.session) of ∙ here in
    let told = c.in-First.ensures.answer d older left ∙ ap (route d a.session older) (sym of) in
    let rated = first_rate (rate d a.session p.pt) (was_routed (routed d a.session older) p.pt) c.in-First.rate
    told in
    let stands = c.in-First.ensures.stands d older a.kept.stamp p left of here in
    on_ok_weaker _
    (λ h. first_steps d a.time older a.session a.kept.stamp p c.in-First.rate a.steps.now.items
    c.push.new.self.items c.give-in-First.new.steps.items own told rated
    (c.in_ok-push-in-First.ensures.items
    ∙ ap (λ (x : ℕ). a.steps.now.items ++ Tell (line.Pt a.time a.session x c.in-First.rate) ∷ [])
    (sym of))
    h)
    (c.give-in-First.ensures.steps d older read stands own rated)

pub returns-in_ok-push-in-First-clause-stands : goal.returns-in_ok-push-in-First-clause-stands
returns-in_ok-push-in-First-clause-stands c = λ d older read left.
    let a = c.args in
    let p = a.kept.packet in
    let of : p.pt ≡ c.pt-pt.result =
    sym (c.pt-pt.ensures.value ∙ ap (λ (v : View). v.pt) c.packet.ensures.value) in
    let here : is_rtx d a.session c.pt-pt.result ≡ false =
    sym (c.is_retransmission.ensures d read) ∙ c.if-is_retransmission.false in
    let own : is_rtx d a.session p.pt ≡ false = ap (is_rtx d a.session) of ∙ here in
    let told = c.in-First.ensures.answer d older left ∙ ap (route d a.session older) (sym of) in
    let rated = first_rate (rate d a.session p.pt) (was_routed (routed d a.session older) p.pt) c.in-First.rate
    told in
    let stands = c.in-First.ensures.stands d older a.kept.stamp p left of here in
    c.give-in-First.ensures.stands d older read stands own rated
