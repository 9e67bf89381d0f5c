use Rattle.std.proofs.Common.{◌≡◌, ◌∙◌, ℕ, List, map, refl, sym, ap, subst}
use Rattle.std.specs.Prelude.{IfOk, Some, None}
use Rattle.std.proofs.lemmas.Result.{on_ok_weaker}
use Rattle.depay.specs.declared.outcome.Format.{Format}
use Rattle.unit_log.specs.declared.line.UnitLine.{UnitLine}
use Rattle.unit_log.specs.Lines.{given_by, calls_in, outcomes_by, line_of}
use Rattle.unit_log.specs.Standing.{WereGiven, given_seen}
use Rattle.unit_log.proofs.Gave.{always}
use Rattle.unit_log.proofs.Took.{took_none, took_some, no_records, given_records, lines_none, lines_some}
use Rattle.unit_log.proofs.log.UnitLog.take.Goals as goal

pub returns-in-Done-clause-took : goal.returns-in-Done-clause-took
returns-in-Done-clause-took c = λ format pt before took.
    always c.only.result
    (took_none c.args.self.now format pt before c.args.line.now (ap (given_by pt) c.in-Done.is) took)

pub returns-in-Some : goal.returns-in-Some
returns-in-Some c =
    let self = c.args.self.now in
    let line = c.args.line.now in
    let g = given_seen c.in-Some.given in
    record {
      told = λ format pt before took.
          let is : given_by pt line ≡ Some g =
          ap (λ (n : ℕ). given_by n line) (sym took.type_is) ∙ sym c.in-Some.ensures in
          let calls = λ (k : ℕ). calls_in pt k before in
          let were = subst (λ (f : Format). WereGiven f calls self.lanes.items)
          (sym took.format_is) took.lanes in
          subst (λ (xs : List UnitLine). IfOk c.give.result (λ lines. lines.items ≡ xs))
          (ap (λ (f : Format). map (line_of g.time g.lane) (outcomes_by f (calls g.lane) g.call))
          took.format_is
          ∙ sym (lines_some format pt g before line (given_records pt g line is) is))
          (c.give.ensures.told calls were);
      took = λ format pt before took.
          let is : given_by pt line ≡ Some g =
          ap (λ (n : ℕ). given_by n line) (sym took.type_is) ∙ sym c.in-Some.ensures in
          let calls = λ (k : ℕ). calls_in pt k before in
          let were = subst (λ (f : Format). WereGiven f calls self.lanes.items)
          (sym took.format_is) took.lanes in
          on_ok_weaker c.give.result
          (λ gave. took_some self c.give.new.self format pt g before line is took c.give.ensures.same
          gave)
          (c.give.ensures.took calls were);
      same = c.give.ensures.same;
    }

pub returns-in-None : goal.returns-in-None
returns-in-None c =
    let self = c.args.self.now in
    let line = c.args.line.now in
    record {
      told = λ format pt before took.
          let is : given_by pt line ≡ None =
          ap (λ (n : ℕ). given_by n line) (sym took.type_is) ∙ sym c.in-None.ensures in
          c.new.ensures.items
          ∙ sym (lines_none format pt before line (no_records line c.in_default.not-Done) is);
      took = λ format pt before took.
          let is : given_by pt line ≡ None =
          ap (λ (n : ℕ). given_by n line) (sym took.type_is) ∙ sym c.in-None.ensures in
          took_none self format pt before line is took;
      same = record { format_is = refl; type_is = refl };
    }
