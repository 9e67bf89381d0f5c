use Rattle.std.proofs.Common.{◌≡◌, None}
use Rattle.capture_file.specs.Place.{kept_fault}
use Rattle.capture_file.proofs.tests.outcome.Given as goal

abbrev pub invariant-loop-count : goal.invariant-loop-count
invariant-loop-count l = record { faults : l.files.faults ≡ 0; none : kept_fault l.file ≡ None }
