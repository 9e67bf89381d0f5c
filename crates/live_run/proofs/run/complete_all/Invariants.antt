use Rattle.std.proofs.Common.{◌≡◌, ◌+◌, vec_len, length}
use Rattle.live_run.specs.Histories.{AreFrom}
use Rattle.live_run.proofs.run.complete_all.Given as goal

abbrev pub invariant-loop-cell : goal.invariant-loop-cell
invariant-loop-cell g l =
    (l.number + vec_len l.cells ≡ length l.plan.lanes) × (length l.histories.items ≡ l.number)
    × AreFrom l.plan 0 l.histories.items

abbrev pub decreases-loop-cell : goal.decreases-loop-cell
decreases-loop-cell g l = vec_len l.cells
