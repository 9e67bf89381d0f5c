use Rattle.std.proofs.Common.{◌≡◌, ℕ, Some, None, refl, sym, ap, ◌∙◌}
use Rattle.std.proofs.lemmas.Result.{on_ok_weaker}
use Rattle.rtp_demux.specs.declared.lanes.LaneOf.TheVariants.{New, Known, Rate, Full}
use Rattle.rtx.specs.Restoring.{restored}
use Rattle.jitter_model.specs.declared.Origin.TheVariants.{Retransmission}
use Rattle.jitter_model.specs.declared.Packet.{Packet}
use Rattle.timeline.specs.declared.line.Word.TheVariants as word
use Rattle.front_model.specs.Fates.{Dropped, packet_from}
use Rattle.front_model.specs.Types.{rate}
use Rattle.rtp_front.specs.Standing.{StreamsState, next_in}
use Rattle.rtp_front.proofs.Moving.{rtx_lanes, goes_left, drop_left}
use Rattle.rtp_front.proofs.Stepping.{told_lane, fate_is, carried_fate_is, unrated_fate}
use Rattle.rtp_front.proofs.Stepping.{known_restored}
use Rattle.rtp_front.proofs.streams.Streams.give_restored.Goals as goal

pub returns-in_default-clause-steps : goal.returns-in_default-clause-steps
returns-in_default-clause-steps c = λ d older o read left rtx original carried.
    let a = c.args in
    let p = a.kept.packet in
    let packet = c.restored_packet-packet.result in
    let is = c.restored_packet-packet.ensures o carried in
    let rated : rate d o.session o.apt ≡ None =
    sym (c.in_default.ensures d read
    ∙ ap (λ (s : ℕ). rate d s packet.pt) carried.session
    ∙ ap (λ (q : Packet). rate d o.session q.pt) is) in
    let fate = unrated_fate d a.time older a.session a.kept.stamp p o rtx original rated in
    on_ok_weaker _
    (λ h. fate_is d a.time older a.session a.kept.stamp p (Dropped word.Unmapped) a.steps.now.items
    c.tell_kept_drop.new.steps.items fate h)
    c.tell_kept_drop.ensures

pub returns-in_default-clause-stands : goal.returns-in_default-clause-stands
returns-in_default-clause-stands c = λ d older o read left rtx original carried.
    let a = c.args in
    let p = a.kept.packet in
    let packet = c.restored_packet-packet.result in
    let is = c.restored_packet-packet.ensures o carried in
    let rated : rate d o.session o.apt ≡ None =
    sym (c.in_default.ensures d read
    ∙ ap (λ (s : ℕ). rate d s packet.pt) carried.session
    ∙ ap (λ (q : Packet). rate d o.session q.pt) is) in
    let fate = unrated_fate d a.time older a.session a.kept.stamp p o rtx original rated in
    let same = left.lanes ∙ sym (rtx_lanes d older a.session a.kept.stamp p rtx) in
    on_ok_weaker _
    (λ h. drop_left d older a.session a.kept.stamp p word.Unmapped a.self.now a.self.now left same
    refl refl refl fate)
    c.tell_kept_drop.ensures

pub returns-in-Known-clause-steps : goal.returns-in-Known-clause-steps
returns-in-Known-clause-steps c = λ d older o read left rtx original carried.
    let a = c.args in
    let p = a.kept.packet in
    let packet = c.restored_packet-packet.result in
    let is = c.restored_packet-packet.ensures o carried in
    let rated : rate d o.session o.apt ≡ Some c.in-Some.rate =
    sym (c.in-Some.ensures d read
    ∙ ap (λ (s : ℕ). rate d s packet.pt) carried.session
    ∙ ap (λ (q : Packet). rate d o.session q.pt) is) in
    let lanes = ap (λ (x : StreamsState). x.lanes) c.self.view_is ∙ left.lanes in
    let told = told_lane c.streams_have_one_lane.ensures.told d older a.restored.session o.session
    a.restored.ssrc o.ssrc c.in-Some.rate c.self.inside.lanes (Known c.in-Known.lane) lanes carried.session
    carried.ssrc c.in-Known.ensures in
    let lane = c.in-Known.lane in
    on_ok_weaker _
    (λ h. known_restored d a.time older a.session a.kept.stamp p o c.in-Some.rate lane
    (next_in a.self.now.given (a.session, lane)) c.stamp.result packet a.steps.now.items
    c.push.new.steps.items rtx original rated told (left.next (a.session, lane)) c.stamp.ensures is
    h)
    c.push.ensures.steps

pub returns-in-Known-clause-stands : goal.returns-in-Known-clause-stands
returns-in-Known-clause-stands c = λ d older o read left rtx original carried.
    let a = c.args in
    let p = a.kept.packet in
    let packet = c.restored_packet-packet.result in
    let is = c.restored_packet-packet.ensures o carried in
    let rated : rate d o.session o.apt ≡ Some c.in-Some.rate =
    sym (c.in-Some.ensures d read
    ∙ ap (λ (s : ℕ). rate d s packet.pt) carried.session
    ∙ ap (λ (q : Packet). rate d o.session q.pt) is) in
    let lanes = ap (λ (x : StreamsState). x.lanes) c.self.view_is ∙ left.lanes in
    let told = told_lane c.streams_have_one_lane.ensures.told d older a.restored.session o.session
    a.restored.ssrc o.ssrc c.in-Some.rate c.self.inside.lanes (Known c.in-Known.lane) lanes carried.session
    carried.ssrc c.in-Known.ensures in
    let fate = carried_fate_is d a.time older a.session a.kept.stamp p o c.in-Some.rate (Known c.in-Known.lane) rtx
    original rated told in
    let same = left.lanes ∙ sym (rtx_lanes d older a.session a.kept.stamp p rtx) in
    on_ok_weaker _
    (λ counted. goes_left d older a.session a.kept.stamp p c.in-Known.lane Retransmission
    (packet_from (restored o p)) a.self.now a.self.now c.push.new.self left same refl refl refl
    fate counted c.push.ensures.rest)
    c.push.ensures.next

pub returns-in-Rate-clause-steps : goal.returns-in-Rate-clause-steps
returns-in-Rate-clause-steps c = λ d older o read left rtx original carried.
    let a = c.args in
    let p = a.kept.packet in
    let packet = c.restored_packet-packet.result in
    let is = c.restored_packet-packet.ensures o carried in
    let rated : rate d o.session o.apt ≡ Some c.in-Some.rate =
    sym (c.in-Some.ensures d read
    ∙ ap (λ (s : ℕ). rate d s packet.pt) carried.session
    ∙ ap (λ (q : Packet). rate d o.session q.pt) is) in
    let lanes = ap (λ (x : StreamsState). x.lanes) c.self.view_is ∙ left.lanes in
    let told = told_lane c.streams_have_one_lane.ensures.told d older a.restored.session o.session
    a.restored.ssrc o.ssrc c.in-Some.rate c.self.inside.lanes (Rate c.in-Rate.lane c.in-Rate.kept) lanes carried.session
    carried.ssrc c.in-Rate.ensures in
    let fate = carried_fate_is d a.time older a.session a.kept.stamp p o c.in-Some.rate (Rate c.in-Rate.lane c.in-Rate.kept) rtx
    original rated told in
    on_ok_weaker _
    (λ h. fate_is d a.time older a.session a.kept.stamp p (Dropped word.Rate) a.steps.now.items
    c.tell_kept_drop-in-Rate.new.steps.items fate h)
    c.tell_kept_drop-in-Rate.ensures

pub returns-in-Rate-clause-stands : goal.returns-in-Rate-clause-stands
returns-in-Rate-clause-stands c = λ d older o read left rtx original carried.
    let a = c.args in
    let p = a.kept.packet in
    let packet = c.restored_packet-packet.result in
    let is = c.restored_packet-packet.ensures o carried in
    let rated : rate d o.session o.apt ≡ Some c.in-Some.rate =
    sym (c.in-Some.ensures d read
    ∙ ap (λ (s : ℕ). rate d s packet.pt) carried.session
    ∙ ap (λ (q : Packet). rate d o.session q.pt) is) in
    let lanes = ap (λ (x : StreamsState). x.lanes) c.self.view_is ∙ left.lanes in
    let told = told_lane c.streams_have_one_lane.ensures.told d older a.restored.session o.session
    a.restored.ssrc o.ssrc c.in-Some.rate c.self.inside.lanes (Rate c.in-Rate.lane c.in-Rate.kept) lanes carried.session
    carried.ssrc c.in-Rate.ensures in
    let fate = carried_fate_is d a.time older a.session a.kept.stamp p o c.in-Some.rate (Rate c.in-Rate.lane c.in-Rate.kept) rtx
    original rated told in
    let same = left.lanes ∙ sym (rtx_lanes d older a.session a.kept.stamp p rtx) in
    on_ok_weaker _
    (λ h. drop_left d older a.session a.kept.stamp p word.Rate a.self.now a.self.now left same
    refl refl refl fate)
    c.tell_kept_drop-in-Rate.ensures

pub returns-in-New-clause-steps : goal.returns-in-New-clause-steps
returns-in-New-clause-steps c = λ d older o read left rtx original carried.
    let a = c.args in
    let p = a.kept.packet in
    let packet = c.restored_packet-packet.result in
    let is = c.restored_packet-packet.ensures o carried in
    let rated : rate d o.session o.apt ≡ Some c.in-Some.rate =
    sym (c.in-Some.ensures d read
    ∙ ap (λ (s : ℕ). rate d s packet.pt) carried.session
    ∙ ap (λ (q : Packet). rate d o.session q.pt) is) in
    let lanes = ap (λ (x : StreamsState). x.lanes) c.self.view_is ∙ left.lanes in
    let told = told_lane c.streams_have_one_lane.ensures.told d older a.restored.session o.session
    a.restored.ssrc o.ssrc c.in-Some.rate c.self.inside.lanes (New c.in-New.field-0) lanes carried.session
    carried.ssrc c.in-New.ensures in
    let fate = carried_fate_is d a.time older a.session a.kept.stamp p o c.in-Some.rate (New c.in-New.field-0) rtx
    original rated told in
    on_ok_weaker _
    (λ h. fate_is d a.time older a.session a.kept.stamp p (Dropped word.RtxSsrc) a.steps.now.items
    c.tell_kept_drop-in-New.new.steps.items fate h)
    c.tell_kept_drop-in-New.ensures

pub returns-in-New-clause-stands : goal.returns-in-New-clause-stands
returns-in-New-clause-stands c = λ d older o read left rtx original carried.
    let a = c.args in
    let p = a.kept.packet in
    let packet = c.restored_packet-packet.result in
    let is = c.restored_packet-packet.ensures o carried in
    let rated : rate d o.session o.apt ≡ Some c.in-Some.rate =
    sym (c.in-Some.ensures d read
    ∙ ap (λ (s : ℕ). rate d s packet.pt) carried.session
    ∙ ap (λ (q : Packet). rate d o.session q.pt) is) in
    let lanes = ap (λ (x : StreamsState). x.lanes) c.self.view_is ∙ left.lanes in
    let told = told_lane c.streams_have_one_lane.ensures.told d older a.restored.session o.session
    a.restored.ssrc o.ssrc c.in-Some.rate c.self.inside.lanes (New c.in-New.field-0) lanes carried.session
    carried.ssrc c.in-New.ensures in
    let fate = carried_fate_is d a.time older a.session a.kept.stamp p o c.in-Some.rate (New c.in-New.field-0) rtx
    original rated told in
    let same = left.lanes ∙ sym (rtx_lanes d older a.session a.kept.stamp p rtx) in
    on_ok_weaker _
    (λ h. drop_left d older a.session a.kept.stamp p word.RtxSsrc a.self.now a.self.now left same
    refl refl refl fate)
    c.tell_kept_drop-in-New.ensures

pub returns-clause-steps : goal.returns-clause-steps
returns-clause-steps c = λ d older o read left rtx original carried.
    let a = c.args in
    let p = a.kept.packet in
    let packet = c.restored_packet-packet.result in
    let is = c.restored_packet-packet.ensures o carried in
    let rated : rate d o.session o.apt ≡ Some c.in-Some.rate =
    sym (c.in-Some.ensures d read
    ∙ ap (λ (s : ℕ). rate d s packet.pt) carried.session
    ∙ ap (λ (q : Packet). rate d o.session q.pt) is) in
    let lanes = ap (λ (x : StreamsState). x.lanes) c.self.view_is ∙ left.lanes in
    let told = told_lane c.streams_have_one_lane.ensures.told d older a.restored.session o.session
    a.restored.ssrc o.ssrc c.in-Some.rate c.self.inside.lanes (Full) lanes carried.session
    carried.ssrc c.in-Full.ensures in
    let fate = carried_fate_is d a.time older a.session a.kept.stamp p o c.in-Some.rate (Full) rtx
    original rated told in
    on_ok_weaker _
    (λ h. fate_is d a.time older a.session a.kept.stamp p (Dropped word.RtxSsrc) a.steps.now.items
    c.tell_kept_drop-in-Full.new.steps.items fate h)
    c.tell_kept_drop-in-Full.ensures

pub returns-clause-stands : goal.returns-clause-stands
returns-clause-stands c = λ d older o read left rtx original carried.
    let a = c.args in
    let p = a.kept.packet in
    let packet = c.restored_packet-packet.result in
    let is = c.restored_packet-packet.ensures o carried in
    let rated : rate d o.session o.apt ≡ Some c.in-Some.rate =
    sym (c.in-Some.ensures d read
    ∙ ap (λ (s : ℕ). rate d s packet.pt) carried.session
    ∙ ap (λ (q : Packet). rate d o.session q.pt) is) in
    let lanes = ap (λ (x : StreamsState). x.lanes) c.self.view_is ∙ left.lanes in
    let told = told_lane c.streams_have_one_lane.ensures.told d older a.restored.session o.session
    a.restored.ssrc o.ssrc c.in-Some.rate c.self.inside.lanes (Full) lanes carried.session
    carried.ssrc c.in-Full.ensures in
    let fate = carried_fate_is d a.time older a.session a.kept.stamp p o c.in-Some.rate (Full) rtx
    original rated told in
    let same = left.lanes ∙ sym (rtx_lanes d older a.session a.kept.stamp p rtx) in
    on_ok_weaker _
    (λ h. drop_left d older a.session a.kept.stamp p word.RtxSsrc a.self.now a.self.now left same
    refl refl refl fate)
    c.tell_kept_drop-in-Full.ensures
