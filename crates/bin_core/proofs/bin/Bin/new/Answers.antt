use Rattle.std.proofs.Common.{false}
use Rattle.bin_core.proofs.Binding.{fresh_stands}
use Rattle.bin_core.proofs.Knowing.{owes_known}
use Rattle.bin_core.proofs.bin.Bin.new.Goals as goal

pub invariant_of-result : goal.invariant_of-result
invariant_of-result c = record { known = owes_known false false 0 c.in_ok-new.field-0 c.in_ok-new.ensures.rests }

pub returns-clause-stands : goal.returns-clause-stands
returns-clause-stands c = fresh_stands c.args.script.now _ c.in_ok-new.ensures.stands
