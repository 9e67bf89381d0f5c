use Rattle.std.proofs.Common.{take}
use Rattle.live_output.specs.declared.totals.TheConstants.{NOTHING}
use Rattle.live_output.specs.Totals.{Counts, entries_of}
use Rattle.live_output.proofs.totals.totals_of.Given as goal

abbrev pub invariant-loop-history : goal.invariant-loop-history
invariant-loop-history l = Counts (entries_of (take l.history-index l.histories)) NOTHING l.totals
