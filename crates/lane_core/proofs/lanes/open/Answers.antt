use Rattle.std.proofs.Common.{sym, subst, ◌∙◌, List, length}
use Rattle.replay_model.specs.Lanes.{opened}
use Rattle.replay_model.specs.Taking.{begun}
use Rattle.lane_core.specs.declared.lane.Lane.{Lane}
use Rattle.lane_core.specs.AllLanes.{LanesRest, resting_but}
use Rattle.lane_core.proofs.Opening.{opens}
use Rattle.lane_core.proofs.Outcomes.{on_ok}
use Rattle.lane_core.proofs.lanes.open.Goals as goal

pub returns-clause-adds : goal.returns-clause-adds
returns-clause-adds c =
    on_ok c.add.result _ _
    (λ added. record {
      lane = c.begin.new.self;
      added = added;
      number_is = c.begin.ensures.stays.number ∙ c.in_ok-lane.ensures.number_is;
      session_is = c.begin.ensures.stays.session ∙ c.in_ok-lane.ensures.session_is;
      ssrc_is = c.begin.ensures.stays.ssrc ∙ c.in_ok-lane.ensures.ssrc_is;
      settings = c.begin.ensures.stays.settings ∙ c.in_ok-lane.ensures.settings;
      pushes = c.begin.ensures.stays.pushes ∙ c.in_ok-lane.ensures.pushes;
      wake_is = c.begin.ensures.wake ∙ c.in_ok-lane.ensures.wake;
    })
    c.add.ensures.ok

pub returns-clause-stands : goal.returns-clause-stands
returns-clause-stands c =
    on_ok c.add.result _ _
    (λ added. λ script base resting tl b h.
    subst (λ (ls : List Lane). LanesRest (opened script (begun script c.args.time c.args.opening.now tl)) base (resting_but (length c.args.lanes.now.items) resting) ls c.begin.new.lines (begun script c.args.time c.args.opening.now tl)) (sym added)
    (opens script base resting c.args.time c.args.latency c.args.opening.now c.args.flushing c.args.lanes.now.items c.in_ok-lane.lane c.begin.new.self c.args.lines.now c.begin.new.lines tl c.requires.number c.in_ok-lane.ensures c.in_ok-begin.ensures.stands b h))
    c.add.ensures.ok
