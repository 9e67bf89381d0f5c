use Rattle.std.proofs.Common.{◌≡◌, ◌∙◌, ◌+◌, ℕ, List, refl, ap, subst, map, arith}
use Rattle.std.specs.Prelude.{IfOk}
use Rattle.depay.specs.declared.outcome.Outcome.{Outcome}
use Rattle.unit_log.specs.Lines.{line_of, unit_count, broken_count}
use Rattle.unit_log.specs.Standing.{call_seen}
use Rattle.unit_log.proofs.Gave.{always, told_is, gave}
use Rattle.unit_log.proofs.log.UnitLog.give.Goals as goal

pub returns-clause-told : goal.returns-clause-told
returns-clause-told c = λ calls were.
    let g = c.args.given.now in
    let at : c.from-lane.result ≡ g.lane = omega arith in
    let lt = c.in_ok-open_lanes.ensures.lane in
    let same = told_is c.args.self.now.format c.open_lanes.new.lanes.items g.lane c.from-lane.result
    c.index_mut.result.now (call_seen g.call) c.in_ok-outcomes.outcomes.items calls at lt
    c.index_mut.ensures.value (c.in_ok-open_lanes.ensures.same calls were)
    c.in_ok-outcomes.ensures.told in
    subst (λ (xs : List Outcome).
    IfOk c.lines_of.result (λ lines. lines.items ≡ map (line_of g.time g.lane) xs)) same
    c.lines_of.ensures

pub returns-clause-took : goal.returns-clause-took
returns-clause-took c = λ calls were.
    let g = c.args.given.now in
    let self = c.args.self.now in
    let at : c.from-lane.result ≡ g.lane = omega arith in
    let lt = c.in_ok-open_lanes.ensures.lane in
    always c.lines_of.result
    (gave self _ c.open_lanes.new.lanes.items g.lane c.from-lane.result
    c.index_mut.result.now c.join.new.depay (call_seen g.call) c.in_ok-outcomes.outcomes.items calls
    at lt c.index_mut.ensures.value (c.in_ok-open_lanes.ensures.same calls were)
    c.in_ok-outcomes.ensures.told c.in_ok-outcomes.ensures.stands refl
    (c.in_ok-self.ensures ∙ ap (λ (n : ℕ). self.units + n)
    (c.units_in.ensures ∙ ap unit_count c.deref.ensures.value))
    (c.in_ok-self-2.ensures ∙ ap (λ (n : ℕ). self.broken + n)
    (c.broken_in.ensures ∙ ap broken_count c.deref-2.ensures.value)))
