use Rattle.std.proofs.Common.{Some, None, ap, ◌∙◌}
use Rattle.rtp_front.specs.Standing.{StreamsState}
use Rattle.rtp_front.proofs.Moving.{unseen_left, synced_left}
use Rattle.rtp_front.proofs.Stepping.{found_lane, synced, unseen}
use Rattle.rtp_front.proofs.streams.Streams.report.Goals as goal

pub returns-in_default-clause-steps : goal.returns-in_default-clause-steps
returns-in_default-clause-steps c = λ d older left.
    let a = c.args in
    unseen d older a.session a.ssrc a.ntp_ns a.rtp a.steps.now.items
    (found_lane c.streams_have_one_lane.ensures.found d older (a.session, a.ssrc)
    c.self.inside.lanes None
    (ap (λ (x : StreamsState). x.lanes) c.self.view_is ∙ left.lanes) c.in_default.ensures)

pub returns-in_default-clause-stands : goal.returns-in_default-clause-stands
returns-in_default-clause-stands c = λ d older left.
    let a = c.args in
    unseen_left d older a.session a.ssrc a.ntp_ns a.rtp a.self.now left
    (found_lane c.streams_have_one_lane.ensures.found d older (a.session, a.ssrc)
    c.self.inside.lanes None
    (ap (λ (x : StreamsState). x.lanes) c.self.view_is ∙ left.lanes) c.in_default.ensures)

pub returns-clause-steps : goal.returns-clause-steps
returns-clause-steps c = λ d older left.
    let a = c.args in
    let lane = c.in-Some.lane in
    synced d older a.session a.ssrc a.ntp_ns a.rtp lane c.in_ok-k.k a.steps.now.items
    c.push.new.self.items
    (found_lane c.streams_have_one_lane.ensures.found d older (a.session, a.ssrc)
    c.self.inside.lanes (Some lane)
    (ap (λ (x : StreamsState). x.lanes) c.self.view_is ∙ left.lanes) c.in-Some.ensures)
    (c.in_ok-k.ensures.value ∙ left.next (a.session, lane))
    c.in_ok-push.ensures.items

pub returns-clause-stands : goal.returns-clause-stands
returns-clause-stands c = λ d older left.
    let a = c.args in
    let lane = c.in-Some.lane in
    synced_left d older a.session a.ssrc a.ntp_ns a.rtp lane a.self.now c.count.new.self left
    (found_lane c.streams_have_one_lane.ensures.found d older (a.session, a.ssrc)
    c.self.inside.lanes (Some lane)
    (ap (λ (x : StreamsState). x.lanes) c.self.view_is ∙ left.lanes) c.in-Some.ensures)
    c.in_ok-k.ensures.next c.in_ok-k.ensures.rest
