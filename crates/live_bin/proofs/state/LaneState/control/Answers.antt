use Rattle.live_bin.proofs.Keeping.{outcome}
use Rattle.live_bin.proofs.Calls.{ok3}
use Rattle.live_bin.proofs.Growing.{ok_either, control_grows, same_grows}
use Rattle.live_bin.proofs.Right.{may_control}
use Rattle.live_bin.proofs.States.{named_after, control_state, event_state, controlled_state}
use Rattle.live_bin.proofs.state.LaneState.control.Goals as goal

pub control_on-requires : goal.control_on-requires
control_on-requires g c = record { right = may_control c.lane-row.result.now c.args.self.now.lane.progress.controls c.lane-row.ensures.right }

pub invariant_of-self : goal.invariant_of-self
invariant_of-self g c =
    record {
      named = named_after _ _ _ c.control_on.ensures.number c.args.self.now.named;
      kept = control_state c.args.plan.now g.K.Run.plan c.args.self.now.lane c.control_on.new.lane c.lane-row.result.now
          (record { same = c.requires.plan; is = c.lane-row.ensures.is; right = c.lane-row.ensures.right; kept = c.args.self.now.kept })
          (outcome c.control_on.result c.control_on.ensures.does c.control_on.ensures.none c.control_on.ensures.err);
    }

pub returns-clause-value : goal.returns-clause-value
returns-clause-value g c =
    rw (← event_state c.args.plan.now g.K.Run.plan c.args.self.now.lane c.lane-row.result.now
    (record { same = c.requires.plan; is = c.lane-row.ensures.is; right = c.lane-row.ensures.right; kept = c.args.self.now.kept })) c.control_on.ensures.value

pub returns-clause-added : goal.returns-clause-added
returns-clause-added g c =
    ok3 c.control_on.result c.control_on.ensures.value c.control_on.ensures.does c.control_on.ensures.none
    (controlled_state c.args.plan.now g.K.Run.plan c.args.self.now.lane c.control_on.new.lane c.lane-row.result.now
    (record { same = c.requires.plan; is = c.lane-row.ensures.is; right = c.lane-row.ensures.right; kept = c.args.self.now.kept }))

pub returns-clause-grows : goal.returns-clause-grows
returns-clause-grows g c =
    ok_either c.control_on.result c.control_on.ensures.does c.control_on.ensures.none
    (control_grows c.lane-row.result.now c.args.self.now.lane c.control_on.new.lane)
    (same_grows c.args.self.now.lane c.control_on.new.lane)
