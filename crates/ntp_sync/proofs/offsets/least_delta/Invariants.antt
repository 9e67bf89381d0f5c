use Rattle.std.proofs.Common.{◌≡◌, fold}
use Rattle.std.specs.BTreeMap.{values}
use Rattle.ntp_sync.specs.Found.{least_next, least_in}
use Rattle.ntp_sync.proofs.offsets.least_delta.Given as goal

abbrev pub invariant-loop-report : goal.invariant-loop-report
invariant-loop-report l = fold (least_next l.cname) l.least l.report-iterator ≡ least_in l.cname (values l.reports)
