use Rattle.std.specs.Prelude.{get_or}
use Rattle.replay_model.specs.Acting.{is_for}
use Rattle.lane_core.specs.declared.lane.Lane.{Lane}
use Rattle.bin_core.proofs.Marking.{Meant}
use Rattle.bin_core.proofs.touched.list_meant.Given as goal

abbrev pub invariant-loop-lane : goal.invariant-loop-lane
invariant-loop-lane l = (d : Lane) → Meant l.touched.items l.lane (λ k. is_for l.action (get_or l.lanes k d).session)
