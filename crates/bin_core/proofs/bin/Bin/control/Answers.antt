use Rattle.std.proofs.Common.{[]}
use Rattle.replay_model.specs.Inputs.{OfScript}
use Rattle.bin_core.specs.Underway.{Owes}
use Rattle.bin_core.proofs.Outcomes.{on_ok}
use Rattle.bin_core.proofs.Binding.{takes_on}
use Rattle.bin_core.proofs.Knowing.{known_owes, broken_known, result_known}
use Rattle.bin_core.proofs.bin.Bin.control.Goals as goal

pub returns-clause-takes : goal.returns-clause-takes
returns-clause-takes c =
    on_ok c.control-result.result _ _
    (λ goes. λ k seen told st. takes_on k seen told (OfScript c.args.item.now) c.args.self.now _ c.args.lines.now c.control-result.new.lines c.requires.onward goes st)
    c.control-result.ensures.goes

pub control-result-requires-clause-rests : goal.control-result-requires-clause-rests
control-result-requires-clause-rests c = (
  c.args.self.now.records,
  known_owes c.args.self.now.broken c.args.self.now.finished c.args.self.now.records c.args.self.now.agenda c.args.self.now.known c.if-self.false c.requires.open,
)

pub invariant_of-self : goal.invariant_of-self
invariant_of-self c = record { known = broken_known c.args.self.now.broken c.args.self.now.finished _ c.args.self.now.agenda c.if-self.true }

pub invariant_of-self-2 : goal.invariant_of-self-2
invariant_of-self-2 c =
    let was : Owes c.args.self.now.records [] c.args.self.now.agenda.stage =
    known_owes c.args.self.now.broken c.args.self.now.finished c.args.self.now.records c.args.self.now.agenda c.args.self.now.known c.if-self.false c.requires.open in
    record {
      known = result_known c.control-result.result c.is_err-self.result c.args.self.now.finished c.args.self.now.records c.control-result.new.self c.is_err-self.ensures.value
          (on_ok c.control-result.result _ _ (λ rests. rests c.args.self.now.records was) c.control-result.ensures.rests);
    }
