use Rattle.std.proofs.Common.{◌≡◌, ◌++◌}
use Rattle.ntp_sync.specs.Found.{offsets_in, AreAbove}
use Rattle.ntp_sync.proofs.offsets.offsets_from.Given as goal

abbrev pub invariant-loop-lane : goal.invariant-loop-lane
invariant-loop-lane l = record {
  rest : l.offsets.items ++ offsets_in l.cname l.least l.lane-iterator ≡ offsets_in l.cname l.least l.reports.entries;
  above : AreAbove l.cname l.least l.lane-iterator;
}
