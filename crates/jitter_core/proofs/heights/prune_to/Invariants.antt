use Rattle.std.proofs.Common.{◌≡◌, Some}
use Rattle.std.specs.VecDeque.{deque_len, deque_capacity}
use Rattle.jitter_core.specs.Marks.{kept_two, AreMarksFalling}
use Rattle.jitter_core.proofs.heights.prune_to.Given as goal

abbrev pub invariant-loop-marks : goal.invariant-loop-marks
invariant-loop-marks l =
    record {
      rest : kept_two (Some l.next) l.marks.items ≡ kept_two (Some l.next) l.initial.marks.items;
      falling : AreMarksFalling l.marks.items;
      capacity : deque_capacity l.marks ≡ deque_capacity l.initial.marks;
    }

abbrev pub decreases-loop-marks : goal.decreases-loop-marks
decreases-loop-marks l = deque_len l.marks
