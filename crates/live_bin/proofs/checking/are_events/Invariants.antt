use Rattle.std.proofs.Common.{◌≡◌, false, drop}
use Rattle.live_bin.specs.Plans.{flushes_after}
use Rattle.live_bin.proofs.Passing.{ManyEvents}
use Rattle.live_bin.proofs.checking.are_events.Given as goal

abbrev pub invariant-loop-k : goal.invariant-loop-k
invariant-loop-k l = ManyEvents l.k l.events × (flushes_after l.flushing (drop l.k l.events) ≡ flushes_after false l.events)
