use Rattle.std.proofs.Common.{◌≡◌, length}
use Rattle.std.specs.Prelude.{is_some}
use Rattle.depay.specs.Aggregate.{units_in}
use Rattle.depay.proofs.aggregate.are_units.Given as goal

-- the bytes that are left decide
abbrev pub invariant-loop-rest : goal.invariant-loop-rest
invariant-loop-rest l = is_some (units_in l.bytes) ≡ is_some (units_in l.rest)

abbrev pub decreases-loop-rest : goal.decreases-loop-rest
decreases-loop-rest l = length l.rest
