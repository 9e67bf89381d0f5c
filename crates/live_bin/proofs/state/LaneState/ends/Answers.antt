use Rattle.live_bin.proofs.Calls.{ok3, settle3}
use Rattle.live_bin.proofs.Growing.{ok_three, over_state, end_grows_state}
use Rattle.live_bin.proofs.Keeping.{same_kept}
use Rattle.live_bin.proofs.Right.{few_queues}
use Rattle.live_bin.proofs.States.{named_after, settings_state, may_end_state, ends_state, ended_state}
use Rattle.live_bin.proofs.state.LaneState.ends.Goals as goal

pub ends_on-requires-clause-sessions : goal.ends_on-requires-clause-sessions
ends_on-requires-clause-sessions g c = few_queues _ c.lane-row.ensures.right

pub ends_on-requires-clause-settings : goal.ends_on-requires-clause-settings
ends_on-requires-clause-settings g c =
    settings_state c.args.plan.now g.K.Run.plan c.args.self.now.lane c.lane-row.result.now
    (record { same = c.requires.plan; is = c.lane-row.ensures.is; right = c.lane-row.ensures.right; kept = c.args.self.now.kept })

pub invariant_of-self : goal.invariant_of-self
invariant_of-self g c =
    record {
      named = named_after _ _ _ c.ends_on.ensures.number c.args.self.now.named;
      kept = settle3 c.ends_on.result c.ends_on.ensures.value c.ends_on.ensures.does c.ends_on.ensures.none c.ends_on.ensures.err
          (ends_state c.args.plan.now g.K.Run.plan c.args.self.now.lane c.ends_on.new.lane c.args.pusher c.lane-row.result.now
          (record { same = c.requires.plan; is = c.lane-row.ensures.is; right = c.lane-row.ensures.right; kept = c.args.self.now.kept }))
          (same_kept g.K.Run.plan c.args.self.now.lane c.ends_on.new.lane c.args.self.now.kept);
    }

pub returns-clause-value : goal.returns-clause-value
returns-clause-value g c =
    rw (← may_end_state c.args.plan.now g.K.Run.plan c.args.self.now.lane c.args.pusher c.lane-row.result.now
    (record { same = c.requires.plan; is = c.lane-row.ensures.is; right = c.lane-row.ensures.right; kept = c.args.self.now.kept })) c.ends_on.ensures.value

pub returns-clause-added : goal.returns-clause-added
returns-clause-added g c =
    ok3 c.ends_on.result c.ends_on.ensures.value c.ends_on.ensures.does c.ends_on.ensures.none
    (ended_state c.args.plan.now g.K.Run.plan c.args.self.now.lane c.ends_on.new.lane c.args.pusher c.lane-row.result.now
    (record { same = c.requires.plan; is = c.lane-row.ensures.is; right = c.lane-row.ensures.right; kept = c.args.self.now.kept }))

pub returns-clause-over : goal.returns-clause-over
returns-clause-over g c =
    ok_three c.ends_on.result c.ends_on.ensures.value c.ends_on.ensures.does c.ends_on.ensures.none
    (over_state c.args.plan.now g.K.Run.plan c.args.self.now.lane c.ends_on.new.lane c.args.pusher c.lane-row.result.now
    (record { same = c.requires.plan; is = c.lane-row.ensures.is; right = c.lane-row.ensures.right; kept = c.args.self.now.kept }))

pub returns-clause-grows : goal.returns-clause-grows
returns-clause-grows g c =
    ok_three c.ends_on.result c.ends_on.ensures.value c.ends_on.ensures.does c.ends_on.ensures.none
    (end_grows_state g.K.Run.plan c.args.self.now.lane c.ends_on.new.lane c.args.pusher c.lane-row.result.now c.args.self.now.kept)
