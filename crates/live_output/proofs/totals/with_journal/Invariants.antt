use Rattle.std.proofs.Common.{take}
use Rattle.live_output.specs.Totals.{Counts}
use Rattle.live_output.proofs.totals.with_journal.Given as goal

abbrev pub invariant-loop-entry : goal.invariant-loop-entry
invariant-loop-entry l = Counts (take l.entry-index l.entries) l.fn.totals l.all
