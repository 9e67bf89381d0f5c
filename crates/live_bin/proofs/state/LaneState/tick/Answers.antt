use Rattle.std.proofs.Common.{arith}
use Rattle.live_bin.proofs.Calls.{settle, tick_kept}
use Rattle.live_bin.proofs.Keeping.{same_kept}
use Rattle.live_bin.proofs.Growing.{ok_does, wakes_state, tick_grows}
use Rattle.live_bin.proofs.States.{named_after, wake_small}
use Rattle.live_bin.proofs.state.LaneState.tick.Goals as goal

pub tick_on-requires : goal.tick_on-requires
tick_on-requires g c =
    let small = wake_small g.K.Run.plan c.args.self.now.lane c.args.t c.wakes_are_bounded.ensures c.args.self.now.kept c.requires.wake in
    omega (arith, small)

pub invariant_of-self : goal.invariant_of-self
invariant_of-self g c =
    record {
      named = named_after _ _ _ c.tick_on.ensures.number c.args.self.now.named;
      kept = settle c.tick_on.result c.tick_on.ensures.does c.tick_on.ensures.err
          (λ u a. tick_kept g.K.Run.plan c.args.self.now.lane c.tick_on.new.lane c.args.t c.args.self.now.kept c.requires.ended c.requires.wake a)
          (same_kept g.K.Run.plan c.args.self.now.lane c.tick_on.new.lane c.args.self.now.kept);
    }

pub returns-clause-wakes : goal.returns-clause-wakes
returns-clause-wakes g c =
    ok_does c.tick_on.result c.tick_on.ensures.does
    (λ u a. wakes_state (record { told = c.rests_when_done.ensures.told; awake = c.wakes_are_right.ensures; falls = c.turns_run_out.ensures.falls; stays = c.turns_run_out.ensures.clock })
    g.K.Run.plan c.args.self.now.lane c.tick_on.new.lane c.args.t c.args.self.now.kept a c.requires.wake)

pub returns-clause-grows : goal.returns-clause-grows
returns-clause-grows g c =
    ok_does c.tick_on.result c.tick_on.ensures.does (λ u a. tick_grows c.args.self.now.lane c.tick_on.new.lane c.args.t a)
