use Rattle.std.proofs.Common.{ℕ, [], sym, subst, arith}
use Rattle.replay_model.specs.Inputs.{OfCapture}
use Rattle.bin_core.specs.Bins.{timed}
use Rattle.bin_core.specs.Underway.{Owes}
use Rattle.bin_core.proofs.Outcomes.{on_ok}
use Rattle.bin_core.proofs.Binding.{takes_on}
use Rattle.bin_core.proofs.Knowing.{known_owes, broken_known, result_known}
use Rattle.bin_core.proofs.Owing.{rest_taken}
use Rattle.bin_core.proofs.bin.Bin.take_record.Goals as goal

pub returns-clause-takes : goal.returns-clause-takes
returns-clause-takes c =
    on_ok c.take_record-result.result _ _
    (λ goes. λ k seen told st. takes_on k seen told (OfCapture (timed c.args.time c.args.link c.args.rec.now)) c.args.self.now _ c.args.lines.now c.take_record-result.new.lines c.requires.onward goes st)
    c.take_record-result.ensures.goes

pub take_record-result-requires-clause-rests : goal.take_record-result-requires-clause-rests
take_record-result-requires-clause-rests c = (
  c.args.self.now.records,
  known_owes c.args.self.now.broken c.args.self.now.finished c.args.self.now.records c.args.self.now.agenda c.args.self.now.known c.if-self.false c.requires.open,
)

pub invariant_of-self : goal.invariant_of-self
invariant_of-self c = record { known = broken_known c.args.self.now.broken c.args.self.now.finished _ c.args.self.now.agenda c.if-self.true }

pub invariant_of-self-2 : goal.invariant_of-self-2
invariant_of-self-2 c =
    let was : Owes c.args.self.now.records [] c.args.self.now.agenda.stage =
    known_owes c.args.self.now.broken c.args.self.now.finished c.args.self.now.records c.args.self.now.agenda c.args.self.now.known c.if-self.false c.requires.open in
    record {
      known = result_known c.take_record-result.result c.is_err-self.result c.args.self.now.finished c.args.n c.take_record-result.new.self c.is_err-self.ensures.value
          (on_ok c.take_record-result.result _ _ (λ rests. subst (λ (m : ℕ). Owes m [] c.take_record-result.new.self.stage) (sym c.requires.number) (rests c.args.self.now.records was)) c.take_record-result.ensures.rests);
    }

pub take_record-result-requires-clause-few : goal.take_record-result-requires-clause-few
take_record-result-requires-clause-few c =
    omega (
      arith,
      c.requires.number,
      c.requires.few,
      rest_taken c.args.self.now.records [] c.args.self.now.agenda.stage (known_owes c.args.self.now.broken c.args.self.now.finished c.args.self.now.records c.args.self.now.agenda c.args.self.now.known c.if-self.false c.requires.open),
    )
