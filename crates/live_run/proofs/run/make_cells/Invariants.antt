use Rattle.std.proofs.Common.{◌≡◌, vec_len}
use Rattle.live_run.proofs.run.make_cells.Given as goal

abbrev pub invariant-loop-number : goal.invariant-loop-number
invariant-loop-number g l = vec_len l.cells ≡ l.number
