use Rattle.std.proofs.Common.{◌≡◌, ◌++◌, true, length}
use Rattle.std.specs.Prelude.{is_some}
use Rattle.depay.specs.Aggregate.{units_in}
use Rattle.depay.specs.Outcomes.{single_unit}
use Rattle.depay.specs.Shapes.{packet_of}
use Rattle.depay.proofs.Splitting.{made}
use Rattle.depay.proofs.aggregate.push_units.Given as goal

-- the units that are left complete the list
abbrev pub invariant-loop-unit : goal.invariant-loop-unit
invariant-loop-unit l = record {
  left : is_some (units_in l.rest) ≡ true;
  all : l.outcomes.items ++ made (single_unit (packet_of l.packet)) (units_in l.rest)
      ≡ l.initial.outcomes.items ++ made (single_unit (packet_of l.packet)) (units_in l.bytes);
}

abbrev pub decreases-loop-unit : goal.decreases-loop-unit
decreases-loop-unit l = length l.rest
