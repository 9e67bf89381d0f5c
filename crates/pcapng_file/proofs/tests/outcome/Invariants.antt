use Rattle.std.proofs.Common.{◌≡◌, None}
use Rattle.pcapng_file.proofs.tests.outcome.Given as goal

abbrev pub invariant-loop-count : goal.invariant-loop-count
invariant-loop-count l = record { faults : l.files.faults ≡ 0; none : l.ng.fault ≡ None }
