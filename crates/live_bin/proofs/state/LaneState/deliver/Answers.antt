use Rattle.live_bin.proofs.Keeping.{outcome}
use Rattle.live_bin.proofs.Calls.{ok1, ok3}
use Rattle.live_bin.proofs.Growing.{fewer_state, ok_either, deliver_grows, same_grows}
use Rattle.live_bin.proofs.Right.{few_queues, can_take}
use Rattle.live_bin.proofs.States.{named_after, push_state, deliver_state, next_state, added_state}
use Rattle.live_bin.proofs.state.LaneState.deliver.Goals as goal

pub deliver_on-requires-clause-sessions : goal.deliver_on-requires-clause-sessions
deliver_on-requires-clause-sessions g c = few_queues _ c.lane-row.ensures.right

pub deliver_on-requires-clause-right : goal.deliver_on-requires-clause-right
deliver_on-requires-clause-right g c =
    push_state c.args.plan.now g.K.Run.plan c.args.self.now.lane c.args.pusher c.lane-row.result.now
    (record { same = c.requires.plan; is = c.lane-row.ensures.is; right = c.lane-row.ensures.right; kept = c.args.self.now.kept })

pub deliver_on-requires-clause-numbered : goal.deliver_on-requires-clause-numbered
deliver_on-requires-clause-numbered g c =
    (can_take c.lane-row.result.now c.args.self.now.lane c.args.pusher c.lane-row.ensures.right).numbered

pub invariant_of-self : goal.invariant_of-self
invariant_of-self g c =
    record {
      named = named_after _ _ _ c.deliver_on.ensures.number c.args.self.now.named;
      kept = deliver_state c.args.plan.now g.K.Run.plan c.args.self.now.lane c.deliver_on.new.lane c.args.pusher c.lane-row.result.now
          (record { same = c.requires.plan; is = c.lane-row.ensures.is; right = c.lane-row.ensures.right; kept = c.args.self.now.kept })
          (outcome c.deliver_on.result c.deliver_on.ensures.does c.deliver_on.ensures.none c.deliver_on.ensures.err);
    }

pub returns-clause-value : goal.returns-clause-value
returns-clause-value g c =
    rw (← next_state c.args.plan.now g.K.Run.plan c.args.self.now.lane c.args.pusher c.lane-row.result.now
    (record { same = c.requires.plan; is = c.lane-row.ensures.is; right = c.lane-row.ensures.right; kept = c.args.self.now.kept })) c.deliver_on.ensures.value

pub returns-clause-added : goal.returns-clause-added
returns-clause-added g c =
    ok3 c.deliver_on.result c.deliver_on.ensures.value c.deliver_on.ensures.does c.deliver_on.ensures.none
    (added_state c.args.plan.now g.K.Run.plan c.args.self.now.lane c.deliver_on.new.lane c.args.pusher c.lane-row.result.now
    (record { same = c.requires.plan; is = c.lane-row.ensures.is; right = c.lane-row.ensures.right; kept = c.args.self.now.kept }))

pub returns-clause-fewer : goal.returns-clause-fewer
returns-clause-fewer g c =
    ok1 c.deliver_on.result c.deliver_on.ensures.does
    (λ b d e. fewer_state c.args.plan.now g.K.Run.plan c.args.self.now.lane c.deliver_on.new.lane c.args.pusher c.lane-row.result.now
    (record { same = c.requires.plan; is = c.lane-row.ensures.is; right = c.lane-row.ensures.right; kept = c.args.self.now.kept })
    c.deliver_on.ensures.number (d e))

pub returns-clause-grows : goal.returns-clause-grows
returns-clause-grows g c =
    ok_either c.deliver_on.result c.deliver_on.ensures.does c.deliver_on.ensures.none
    (deliver_grows c.lane-row.result.now c.args.self.now.lane c.deliver_on.new.lane c.args.pusher)
    (same_grows c.args.self.now.lane c.deliver_on.new.lane)
