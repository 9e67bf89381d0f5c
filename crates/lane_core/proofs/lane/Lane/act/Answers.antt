use Rattle.std.proofs.Common.{refl, sym, ap, ◌++◌, ◌∷◌, [], ◌∙◌, ℕ}
use Rattle.jitter_model.specs.declared.Entry.TheVariants as call
use Rattle.timeline.specs.declared.line.BinLine.TheVariants as line
use Rattle.script_lang.specs.declared.script.Action.TheVariants as action
use Rattle.lane_core.proofs.Totals.{call_counted}
use Rattle.lane_core.proofs.Entering.{entered, called, line_told, acted_as}
use Rattle.lane_core.proofs.Outcomes.{on_ok}
use Rattle.lane_core.proofs.lane.Lane.act.Goals as goal

pub invariant_of-self : goal.invariant_of-self
invariant_of-self c =
    record {
      counted = call_counted c.args.self.now.buffer c.flush_stop.new.self c.args.self.now.counts (call.FlushStop) c.flush_stop.ensures.stands (λ h. record { out = refl; lost = refl; refused = refl }) c.args.self.now.counted;
      known = c.args.self.now.known ∙ ap (λ s. s.pushers) (sym c.flush_stop.ensures.settings);
    }

pub invariant_of-self-in-Latency : goal.invariant_of-self-in-Latency
invariant_of-self-in-Latency c =
    record {
      counted = call_counted c.args.self.now.buffer c.set_latency.new.self c.args.self.now.counts (call.Latency c.in-Latency.ns) c.set_latency.ensures.stands (λ h. record { out = refl; lost = refl; refused = refl }) c.args.self.now.counted;
      known = c.args.self.now.known ∙ ap (λ s. s.pushers) (sym c.set_latency.ensures.settings);
    }

pub returns-in-Clock-clause-stands : goal.returns-in-Clock-clause-stands
returns-in-Clock-clause-stands c =
    λ o a n tl h. acted_as o a c.args.time n _ c.args.lines.now c.args.action action.Clock tl c.in-Clock.is h

pub returns-in-FlushStart-clause-stands : goal.returns-in-FlushStart-clause-stands
returns-in-FlushStart-clause-stands c =
    on_ok c.begin_flush.result _ _
    (λ begins. λ o a n tl h. acted_as o a c.args.time n _ c.begin_flush.new.lines c.args.action (action.FlushStart _) tl c.in-FlushStart.is (begins o a n tl h))
    c.begin_flush.ensures.stands

pub returns-in-FlushStop-clause-stands : goal.returns-in-FlushStop-clause-stands
returns-in-FlushStop-clause-stands c =
    on_ok c.push.result _ _
    (λ pushed. λ o a n tl h. acted_as o a c.args.time n _ c.push.new.self c.args.action (action.FlushStop _) tl c.in-FlushStop.is
    (called o a c.args.time n c.args.self.now _ c.args.lines.now c.push.new.self call.FlushStop tl h
    (record { same = record { number = refl; session = refl; ssrc = refl; settings = c.flush_stop.ensures.settings; pushes = c.flush_stop.ensures.same }; counts = refl; stands = c.flush_stop.ensures.stands })
    (record { out_is = refl; lost_is = refl; refused_is = refl })
    (λ e. pushed ∙ ap (λ (m : ℕ). c.args.lines.now ++ line.Flushed c.args.time m ∷ []) e)))
    c.push.ensures.ok

pub returns-in_ok-push-in-Latency-clause-stands : goal.returns-in_ok-push-in-Latency-clause-stands
returns-in_ok-push-in-Latency-clause-stands c =
    λ o a n tl h. acted_as o a c.args.time n _ c.push-in-Latency.new.self c.args.action (action.Latency _ c.in-Latency.ns) tl c.in-Latency.is
    (entered o a c.args.time n c.args.self.now _ c.push-in-Latency.new.self (call.Latency c.in-Latency.ns) _
    (line_told o a c.args.time n c.args.self.now c.args.lines.now c.push-in-Latency.new.self (line.Latency c.args.time n c.in-Latency.ns) tl h
    (record { out_is = refl; lost_is = refl; refused_is = refl })
    (c.in_ok-push-in-Latency.ensures.ok ∙ ap (λ (m : ℕ). c.args.lines.now ++ line.Latency c.args.time m c.in-Latency.ns ∷ []) h.holds.number_is))
    (record { same = record { number = refl; session = refl; ssrc = refl; settings = c.set_latency.ensures.settings; pushes = c.set_latency.ensures.same }; counts = refl; stands = c.set_latency.ensures.stands }) refl)
