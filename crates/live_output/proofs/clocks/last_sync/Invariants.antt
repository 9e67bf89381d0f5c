use Rattle.std.proofs.Common.{◌≡◌, take}
use Rattle.live_output.specs.Clocks.{last_sync}
use Rattle.live_output.proofs.clocks.last_sync.Given as goal

abbrev pub invariant-loop-entry : goal.invariant-loop-entry
invariant-loop-entry l = l.last ≡ last_sync (take l.entry-index l.entries)
