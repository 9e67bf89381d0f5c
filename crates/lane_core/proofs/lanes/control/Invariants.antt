use Rattle.std.proofs.Common.{ℕ, ◌≡◌, Bool, true, false, length}
use Rattle.front_model.specs.declared.Opening.{Opening}
use Rattle.replay_model.specs.Acting.{is_for, all_acted}
use Rattle.replay_model.specs.Events.{Timeline}
use Rattle.lane_core.specs.Lanes.{Base}
use Rattle.lane_core.specs.AllLanes.{SameLanes, LanesRest, wakes_in}
use Rattle.lane_core.proofs.lanes.control.Given as goal

abbrev pub invariant-loop-i : goal.invariant-loop-i
invariant-loop-i l =
    record {
      stays : SameLanes l.fn.lanes.items l.lanes.items;
      wakes : (k : ℕ) → wakes_in l.lanes.items k ≡ wakes_in l.fn.lanes.items k;
      end : l.i-end ≡ length l.fn.lanes.items;
      run : (o : ℕ → Opening) (base : Base) (resting : ℕ → Bool) (tl : Timeline)
          → ((k : ℕ) → resting k ≡ true → is_for l.item.action (o k).session ≡ false)
          → LanesRest o base resting l.fn.lanes.items l.fn.lines tl
          → LanesRest o base resting l.lanes.items l.lines (all_acted o l.item.time l.i l.item.action tl);
    }
