use Rattle.std.proofs.Math.Logic.{∥∥₁_elim}
use Rattle.std.proofs.Props.{props}
use Rattle.live_bin.proofs.Calls.{settle, ok1, turn_kept, turn_added, turn_value}
use Rattle.live_bin.proofs.Keeping.{same_kept}
use Rattle.live_bin.proofs.Growing.{ok_does, comes_state, waits_state, turn_grows}
use Rattle.live_bin.proofs.States.{named_after}
use Rattle.live_bin.proofs.state.LaneState.turn.Goals as goal

pub invariant_of-self : goal.invariant_of-self
invariant_of-self g c =
    record {
      named = named_after _ _ _ c.turn_on.ensures.number c.args.self.now.named;
      kept = settle c.turn_on.result c.turn_on.ensures.does c.turn_on.ensures.err
          (λ n d. turn_kept g.K.Run.plan c.args.self.now.lane c.turn_on.new.lane n c.args.self.now.kept d)
          (same_kept g.K.Run.plan c.args.self.now.lane c.turn_on.new.lane c.args.self.now.kept);
    }

pub returns-clause-value : goal.returns-clause-value
returns-clause-value g c =
    ok1 c.turn_on.result c.turn_on.ensures.does
    (λ n d. ∥∥₁_elim c.args.self.now.kept (hlevel props) (λ k. turn_value g.K.Run.plan c.args.self.now.lane c.turn_on.new.lane n k d))

pub returns-clause-added : goal.returns-clause-added
returns-clause-added g c =
    ok1 c.turn_on.result c.turn_on.ensures.does
    (λ n d. ∥∥₁_elim c.args.self.now.kept (hlevel props) (λ k. turn_added g.K.Run.plan c.args.self.now.lane c.turn_on.new.lane n k d))

pub returns-clause-comes : goal.returns-clause-comes
returns-clause-comes g c =
    ok1 c.turn_on.result c.turn_on.ensures.does
    (λ n d ready. comes_state (record { told = c.rests_when_done.ensures.told; awake = c.wakes_are_right.ensures; falls = c.turns_run_out.ensures.falls; stays = c.turns_run_out.ensures.clock })
    g.K.Run.plan c.args.self.now.lane c.turn_on.new.lane n c.args.self.now.kept d ready)

pub returns-clause-grows : goal.returns-clause-grows
returns-clause-grows g c =
    ok_does c.turn_on.result c.turn_on.ensures.does (λ n d. turn_grows c.args.self.now.lane c.turn_on.new.lane n d)

pub returns-clause-wake : goal.returns-clause-wake
returns-clause-wake g c =
    ok1 c.turn_on.result c.turn_on.ensures.does
    (λ n d w e. waits_state g.K.Run.plan c.args.self.now.lane c.turn_on.new.lane n c.args.self.now.kept d w e)
