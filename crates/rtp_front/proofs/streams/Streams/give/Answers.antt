use Rattle.std.proofs.Common.{◌≡◌, ℕ, refl, sym, ap, subst, ◌∙◌}
use Rattle.std.specs.List.{filter_map}
use Rattle.std.proofs.lemmas.Result.{on_ok_weaker}
use Rattle.rtp_wire.specs.Packet.{Packet as View}
use Rattle.rtp_demux.specs.declared.lanes.LaneOf.TheVariants.{New, Known, Rate, Full}
use Rattle.jitter_model.specs.declared.Origin.TheVariants.{Original}
use Rattle.timeline.specs.declared.line.Word.TheVariants as word
use Rattle.front_model.specs.Fates.{packet_from}
use Rattle.front_model.specs.Lanes.{sight_of}
use Rattle.front_model.specs.Moves.{Released}
use Rattle.front_model.specs.Steps.{opening}
use Rattle.rtp_front.specs.Standing.{StreamsState, next_in, IsRouted}
use Rattle.rtp_front.specs.contracts.streams.Streams.{the_view}
use Rattle.rtp_front.proofs.Moving.{next_lanes, goes_left, drop_left}
use Rattle.rtp_front.proofs.Stepping.{told_lane, own_fate_is, new_lane, known_lane, no_lane}
use Rattle.rtp_front.proofs.streams.Streams.give.Goals as goal

pub returns-in_ok-open_lane-in-New-clause-steps : goal.returns-in_ok-open_lane-in-New-clause-steps
returns-in_ok-open_lane-in-New-clause-steps c = λ d older read left own rated.
    let a = c.args in
    let p = a.kept.packet in
    let before : IsRouted d older (Released a.session a.kept.stamp p) (the_view c.self.inside) =
    subst (λ (x : StreamsState). IsRouted d older (Released a.session a.kept.stamp p) x)
    (sym c.self.view_is) left in
    let at : c.ssrc-ssrc.result ≡ p.ssrc =
    c.ssrc-ssrc.ensures ∙ ap (λ (v : View). v.ssrc) c.packet.ensures.value in
    let told = told_lane c.streams_have_one_lane.ensures.told d older a.session a.session
    c.ssrc-ssrc.result p.ssrc a.rate c.self.inside.lanes (New c.in-New.lane) before.lanes refl at
    c.in-New.ensures.answer in
    let lane = c.in-New.lane in
    on_ok_weaker _
    (λ h. new_lane d a.time older a.session a.kept.stamp p a.rate lane
    (next_in c.self.inside.given.entries (a.session, lane)) c.opening.result a.steps.now.items
    c.open_lane.new.steps.items c.push_own.new.steps.items own rated told
    (c.opening.ensures d read
    ∙ ap (λ (x : ℕ). opening d lane a.session x a.rate) at)
    (before.next (a.session, lane)) c.in_ok-open_lane-in-New.ensures h)
    c.push_own.ensures.steps

pub returns-in_ok-open_lane-in-New-clause-stands : goal.returns-in_ok-open_lane-in-New-clause-stands
returns-in_ok-open_lane-in-New-clause-stands c = λ d older read left own rated.
    let a = c.args in
    let p = a.kept.packet in
    let before : IsRouted d older (Released a.session a.kept.stamp p) (the_view c.self.inside) =
    subst (λ (x : StreamsState). IsRouted d older (Released a.session a.kept.stamp p) x)
    (sym c.self.view_is) left in
    let at : c.ssrc-ssrc.result ≡ p.ssrc =
    c.ssrc-ssrc.ensures ∙ ap (λ (v : View). v.ssrc) c.packet.ensures.value in
    let told = told_lane c.streams_have_one_lane.ensures.told d older a.session a.session
    c.ssrc-ssrc.result p.ssrc a.rate c.self.inside.lanes (New c.in-New.lane) before.lanes refl at
    c.in-New.ensures.answer in
    let mid : StreamsState = record {
      lanes = c.lane.new.self;
      types = c.self.inside.types.entries;
      receiver = c.self.inside.receiver;
      given = c.self.inside.given.entries;
    } in
    let lanes = next_lanes d older a.session a.kept.stamp p own a.rate c.ssrc-ssrc.result
    c.lane.new.self rated at
    (c.in-New.ensures.stands (filter_map (sight_of d) older) before.lanes) in
    let fate = own_fate_is d a.time older a.session a.kept.stamp p a.rate own rated (New c.in-New.lane) told in
    on_ok_weaker _
    (λ counted. goes_left d older a.session a.kept.stamp p c.in-New.lane Original (packet_from p)
    (the_view c.self.inside) mid c.push_own.new.self before lanes refl refl refl fate counted
    c.push_own.ensures.rest)
    c.push_own.ensures.next

pub returns-in-Known-clause-steps : goal.returns-in-Known-clause-steps
returns-in-Known-clause-steps c = λ d older read left own rated.
    let a = c.args in
    let p = a.kept.packet in
    let before : IsRouted d older (Released a.session a.kept.stamp p) (the_view c.self.inside) =
    subst (λ (x : StreamsState). IsRouted d older (Released a.session a.kept.stamp p) x)
    (sym c.self.view_is) left in
    let at : c.ssrc-ssrc.result ≡ p.ssrc =
    c.ssrc-ssrc.ensures ∙ ap (λ (v : View). v.ssrc) c.packet.ensures.value in
    let told = told_lane c.streams_have_one_lane.ensures.told d older a.session a.session
    c.ssrc-ssrc.result p.ssrc a.rate c.self.inside.lanes (Known c.in-Known.lane) before.lanes refl at
    c.in-Known.ensures.answer in
    let lane = c.in-Known.lane in
    on_ok_weaker _
    (λ h. known_lane d a.time older a.session a.kept.stamp p a.rate lane
    (next_in c.self.inside.given.entries (a.session, lane)) a.steps.now.items
    c.push_own-in-Known.new.steps.items own rated told (before.next (a.session, lane)) h)
    c.push_own-in-Known.ensures.steps

pub returns-in-Known-clause-stands : goal.returns-in-Known-clause-stands
returns-in-Known-clause-stands c = λ d older read left own rated.
    let a = c.args in
    let p = a.kept.packet in
    let before : IsRouted d older (Released a.session a.kept.stamp p) (the_view c.self.inside) =
    subst (λ (x : StreamsState). IsRouted d older (Released a.session a.kept.stamp p) x)
    (sym c.self.view_is) left in
    let at : c.ssrc-ssrc.result ≡ p.ssrc =
    c.ssrc-ssrc.ensures ∙ ap (λ (v : View). v.ssrc) c.packet.ensures.value in
    let told = told_lane c.streams_have_one_lane.ensures.told d older a.session a.session
    c.ssrc-ssrc.result p.ssrc a.rate c.self.inside.lanes (Known c.in-Known.lane) before.lanes refl at
    c.in-Known.ensures.answer in
    let mid : StreamsState = record {
      lanes = c.lane.new.self;
      types = c.self.inside.types.entries;
      receiver = c.self.inside.receiver;
      given = c.self.inside.given.entries;
    } in
    let lanes = next_lanes d older a.session a.kept.stamp p own a.rate c.ssrc-ssrc.result
    c.lane.new.self rated at
    (c.in-Known.ensures.stands (filter_map (sight_of d) older) before.lanes) in
    let fate = own_fate_is d a.time older a.session a.kept.stamp p a.rate own rated (Known c.in-Known.lane) told in
    on_ok_weaker _
    (λ counted. goes_left d older a.session a.kept.stamp p c.in-Known.lane Original (packet_from p)
    (the_view c.self.inside) mid c.push_own-in-Known.new.self before lanes refl refl refl fate
    counted c.push_own-in-Known.ensures.rest)
    c.push_own-in-Known.ensures.next

pub returns-in-Rate-clause-steps : goal.returns-in-Rate-clause-steps
returns-in-Rate-clause-steps c = λ d older read left own rated.
    let a = c.args in
    let p = a.kept.packet in
    let before : IsRouted d older (Released a.session a.kept.stamp p) (the_view c.self.inside) =
    subst (λ (x : StreamsState). IsRouted d older (Released a.session a.kept.stamp p) x)
    (sym c.self.view_is) left in
    let at : c.ssrc-ssrc.result ≡ p.ssrc =
    c.ssrc-ssrc.ensures ∙ ap (λ (v : View). v.ssrc) c.packet.ensures.value in
    let told = told_lane c.streams_have_one_lane.ensures.told d older a.session a.session
    c.ssrc-ssrc.result p.ssrc a.rate c.self.inside.lanes (Rate c.in-Rate.lane c.in-Rate.kept) before.lanes refl at
    c.in-Rate.ensures.answer in
    on_ok_weaker _
    (λ h. no_lane d a.time older a.session a.kept.stamp p a.rate (Rate c.in-Rate.lane c.in-Rate.kept) word.Rate a.steps.now.items
    c.tell_kept_drop.new.steps.items refl refl own rated told h)
    c.tell_kept_drop.ensures

pub returns-in-Rate-clause-stands : goal.returns-in-Rate-clause-stands
returns-in-Rate-clause-stands c = λ d older read left own rated.
    let a = c.args in
    let p = a.kept.packet in
    let before : IsRouted d older (Released a.session a.kept.stamp p) (the_view c.self.inside) =
    subst (λ (x : StreamsState). IsRouted d older (Released a.session a.kept.stamp p) x)
    (sym c.self.view_is) left in
    let at : c.ssrc-ssrc.result ≡ p.ssrc =
    c.ssrc-ssrc.ensures ∙ ap (λ (v : View). v.ssrc) c.packet.ensures.value in
    let told = told_lane c.streams_have_one_lane.ensures.told d older a.session a.session
    c.ssrc-ssrc.result p.ssrc a.rate c.self.inside.lanes (Rate c.in-Rate.lane c.in-Rate.kept) before.lanes refl at
    c.in-Rate.ensures.answer in
    let mid : StreamsState = record {
      lanes = c.lane.new.self;
      types = c.self.inside.types.entries;
      receiver = c.self.inside.receiver;
      given = c.self.inside.given.entries;
    } in
    let lanes = next_lanes d older a.session a.kept.stamp p own a.rate c.ssrc-ssrc.result
    c.lane.new.self rated at
    (c.in-Rate.ensures.stands (filter_map (sight_of d) older) before.lanes) in
    let fate = own_fate_is d a.time older a.session a.kept.stamp p a.rate own rated (Rate c.in-Rate.lane c.in-Rate.kept) told in
    on_ok_weaker _
    (λ h. drop_left d older a.session a.kept.stamp p word.Rate (the_view c.self.inside) mid before lanes
    refl refl refl fate)
    c.tell_kept_drop.ensures

pub returns-in-Full-clause-steps : goal.returns-in-Full-clause-steps
returns-in-Full-clause-steps c = λ d older read left own rated.
    let a = c.args in
    let p = a.kept.packet in
    let before : IsRouted d older (Released a.session a.kept.stamp p) (the_view c.self.inside) =
    subst (λ (x : StreamsState). IsRouted d older (Released a.session a.kept.stamp p) x)
    (sym c.self.view_is) left in
    let at : c.ssrc-ssrc.result ≡ p.ssrc =
    c.ssrc-ssrc.ensures ∙ ap (λ (v : View). v.ssrc) c.packet.ensures.value in
    let told = told_lane c.streams_have_one_lane.ensures.told d older a.session a.session
    c.ssrc-ssrc.result p.ssrc a.rate c.self.inside.lanes (Full) before.lanes refl at
    c.in-Full.ensures.answer in
    on_ok_weaker _
    (λ h. no_lane d a.time older a.session a.kept.stamp p a.rate (Full) word.Lanes a.steps.now.items
    c.tell_kept_drop-in-Full.new.steps.items refl refl own rated told h)
    c.tell_kept_drop-in-Full.ensures

pub returns-in-Full-clause-stands : goal.returns-in-Full-clause-stands
returns-in-Full-clause-stands c = λ d older read left own rated.
    let a = c.args in
    let p = a.kept.packet in
    let before : IsRouted d older (Released a.session a.kept.stamp p) (the_view c.self.inside) =
    subst (λ (x : StreamsState). IsRouted d older (Released a.session a.kept.stamp p) x)
    (sym c.self.view_is) left in
    let at : c.ssrc-ssrc.result ≡ p.ssrc =
    c.ssrc-ssrc.ensures ∙ ap (λ (v : View). v.ssrc) c.packet.ensures.value in
    let told = told_lane c.streams_have_one_lane.ensures.told d older a.session a.session
    c.ssrc-ssrc.result p.ssrc a.rate c.self.inside.lanes (Full) before.lanes refl at
    c.in-Full.ensures.answer in
    let mid : StreamsState = record {
      lanes = c.lane.new.self;
      types = c.self.inside.types.entries;
      receiver = c.self.inside.receiver;
      given = c.self.inside.given.entries;
    } in
    let lanes = next_lanes d older a.session a.kept.stamp p own a.rate c.ssrc-ssrc.result
    c.lane.new.self rated at
    (c.in-Full.ensures.stands (filter_map (sight_of d) older) before.lanes) in
    let fate = own_fate_is d a.time older a.session a.kept.stamp p a.rate own rated (Full) told in
    on_ok_weaker _
    (λ h. drop_left d older a.session a.kept.stamp p word.Lanes (the_view c.self.inside) mid before lanes
    refl refl refl fate)
    c.tell_kept_drop-in-Full.ensures
