use Rattle.std.proofs.Common.{refl}
use Rattle.live_bin.specs.Lookup.{lane_of}
use Rattle.live_bin.proofs.States.{new_kept, kept_empty, named_under}
use Rattle.live_bin.proofs.state.LaneState.new.Goals as goal

pub invariant_of-result : goal.invariant_of-result
invariant_of-result g c =
    record {
      named = named_under c.args.plan.now g.K.Run.plan c.args.number c.requires.plan c.requires.number;
      kept = kept_empty (lane_of g.K.Run.plan c.args.number) c.in_ok-buffer.buffer _ c.new-2.result.items c.new-2.ensures.items
          (new_kept c.args.plan.now g.K.Run.plan c.args.number c.lane.result.now c.in_ok-buffer.buffer _ c.requires.plan c.lane.ensures.is
          c.in_ok-buffer.ensures.stands c.in_ok-buffer.ensures.settings refl refl refl refl);
    }
