use Rattle.std.proofs.Common.{sym, ◌∙◌}
use Rattle.lane_core.proofs.Entering.{met_here, met_not}
use Rattle.lane_core.proofs.Outcomes.{on_ok}
use Rattle.lane_core.proofs.lane.Lane.control.Goals as goal

pub returns-then-is_for_session-clause-stands : goal.returns-then-is_for_session-clause-stands
returns-then-is_for_session-clause-stands c =
    on_ok c.meet.result _ _
    (λ meets. λ o a n tl h. met_here o a n c.args.item.now c.args.self.now _ c.args.lines.now c.meet.new.lines tl (sym c.is_for_session.ensures ∙ c.if-is_for_session.true) h (meets o a n tl h))
    c.meet.ensures.stands

pub returns-else-is_for_session-clause-stands : goal.returns-else-is_for_session-clause-stands
returns-else-is_for_session-clause-stands c =
    λ o a n tl h. met_not o a n c.args.item.now c.args.self.now c.args.lines.now tl (sym c.is_for_session.ensures ∙ c.if-is_for_session.false) h
