use Rattle.std.proofs.Common.{true, refl}
use Rattle.bin_core.proofs.Outcomes.{on_ok}
use Rattle.bin_core.proofs.Binding.{completes}
use Rattle.bin_core.proofs.Knowing.{known_owes, finished_known}
use Rattle.bin_core.proofs.bin.Bin.finish.Goals as goal

pub returns-clause-completes : goal.returns-clause-completes
returns-clause-completes c =
    on_ok c.finish-result.result _ _
    (λ ends. λ k seen told st. completes k seen told c.args.self.now c.args.lines.now c.finish-result.new.lines c.requires.level ends st)
    c.finish-result.ensures

pub finish-result-requires : goal.finish-result-requires
finish-result-requires c = (
  c.args.self.now.records,
  known_owes c.args.self.now.broken c.args.self.now.finished c.args.self.now.records c.args.self.now.agenda c.args.self.now.known c.if-self.false c.requires.open,
)

pub invariant_of-self : goal.invariant_of-self
invariant_of-self c = record { known = finished_known c.args.self.now.broken true c.args.self.now.records c.args.self.now.agenda refl }

pub invariant_of-self-2 : goal.invariant_of-self-2
invariant_of-self-2 c = record { known = finished_known c.is_err-self.result true c.args.self.now.records c.finish-result.new.self refl }
