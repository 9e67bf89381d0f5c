use Rattle.std.proofs.Common.{refl, subst, sym, ap, ◌∙◌, ◌++◌, ℕ}
use Rattle.replay_model.specs.Lines.{dropped_lines, verdict_lines}
use Rattle.lane_core.specs.Totals.{with_push, IsCounted}
use Rattle.lane_core.proofs.Totals.{has_room, room_below, push_counted}
use Rattle.lane_core.proofs.Entering.{pushed_tells}
use Rattle.lane_core.proofs.Outcomes.{on_ok}
use Rattle.lane_core.proofs.lane.Lane.push.Goals as goal

pub count_push-self-requires : goal.count_push-self-requires
count_push-self-requires c =
    room_below _ (has_room (record { window = c.accepted_in_window.ensures.window; packet = c.covers_from_next.ensures.packet; loss = c.covers_from_next.ensures.loss }) c.push-answer.new.buffer (with_push c.args.self.now.counts c.push-answer.result.verdict)
    (push_counted c.args.self.now.buffer c.push-answer.new.buffer c.args.self.now.counts c.args.arrival c.push-answer.result.verdict c.push-answer.result.number c.push-answer.result.aside_dropped c.push-answer.ensures.stands c.args.self.now.counted)).refused

pub invariant_of-self : goal.invariant_of-self
invariant_of-self c =
    record {
      counted = subst (IsCounted c.push-answer.new.buffer) (sym c.count_push-self.ensures)
          (push_counted c.args.self.now.buffer c.push-answer.new.buffer c.args.self.now.counts c.args.arrival c.push-answer.result.verdict c.push-answer.result.number c.push-answer.result.aside_dropped c.push-answer.ensures.stands c.args.self.now.counted);
      known = c.args.self.now.known ∙ ap (λ s. s.pushers) (sym c.push-answer.ensures.settings);
    }

pub returns-clause-stands : goal.returns-clause-stands
returns-clause-stands c =
    on_ok c.tell_verdict.result _ _
    (λ told. λ o a n tl h. pushed_tells o a c.args.time n c.args.self.now _ c.args.lines.now c.tell_dropped.new.lines c.tell_verdict.new.lines c.args.arrival c.push-answer.result tl h
    (record { number = refl; session = refl; ssrc = refl; counts = c.count_push-self.ensures; settings = c.push-answer.ensures.settings; value = c.push-answer.ensures.value; stands = c.push-answer.ensures.stands })
    (λ e. c.in_ok-tell_dropped.ensures ∙ ap (λ (m : ℕ). c.args.lines.now ++ dropped_lines c.args.time m c.push-answer.result.aside_dropped) e)
    (λ e. told ∙ ap (λ (m : ℕ). c.tell_dropped.new.lines ++ verdict_lines c.args.time m c.args.arrival.packet.seq c.args.arrival.origin c.push-answer.result.verdict) e))
    c.tell_verdict.ensures
