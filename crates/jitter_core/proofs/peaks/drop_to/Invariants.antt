use Rattle.std.proofs.Common.{◌≡◌}
use Rattle.std.specs.VecDeque.{deque_len, deque_capacity}
use Rattle.jitter_core.specs.Peaks.{above}
use Rattle.jitter_core.proofs.peaks.drop_to.Given as goal

abbrev pub invariant-loop-peaks : goal.invariant-loop-peaks
invariant-loop-peaks l =
    record {
      rest : above l.number l.peaks.items ≡ above l.number l.initial.peaks.items;
      capacity : deque_capacity l.peaks ≡ deque_capacity l.initial.peaks;
    }

abbrev pub decreases-loop-peaks : goal.decreases-loop-peaks
decreases-loop-peaks l = deque_len l.peaks
