use Rattle.std.proofs.Common.{◌≡◌, ◌≤◌, ◌*◌, ◌^◌, take}
use Rattle.std.specs.Prelude.{sum_by}
use Rattle.lane_core.specs.AllLanes.{out_of, lost_of, refused_of}
use Rattle.lane_core.proofs.lanes.done_line.Given as goal

abbrev pub invariant-loop-i : goal.invariant-loop-i
invariant-loop-i l =
    record {
      out : l.out ≡ sum_by out_of (take l.i l.lanes);
      lost : l.lost ≡ sum_by lost_of (take l.i l.lanes);
      refused : l.refused ≡ sum_by refused_of (take l.i l.lanes);
      out_small : l.out ≤ l.i * 2 ^ 44;
      lost_small : l.lost ≤ l.i * 2 ^ 44;
      refused_small : l.refused ≤ l.i * 2 ^ 44;
    }
