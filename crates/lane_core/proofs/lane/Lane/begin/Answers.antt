use Rattle.std.proofs.Common.{refl, sym, ap, ◌∙◌, true, false}
use Rattle.jitter_model.specs.declared.Entry.TheVariants.{Latency}
use Rattle.lane_core.proofs.Totals.{call_counted}
use Rattle.lane_core.proofs.Entering.{entered, begun_as}
use Rattle.lane_core.proofs.Outcomes.{on_ok}
use Rattle.lane_core.proofs.lane.Lane.begin.Goals as goal

pub invariant_of-self : goal.invariant_of-self
invariant_of-self c =
    record {
      counted = call_counted c.args.self.now.buffer c.set_latency.new.self c.args.self.now.counts (Latency c.args.latency) c.set_latency.ensures.stands (λ h. record { out = refl; lost = refl; refused = refl }) c.args.self.now.counted;
      known = c.args.self.now.known ∙ ap (λ s. s.pushers) (sym c.set_latency.ensures.settings);
    }

pub returns-then-flushing-clause-stands : goal.returns-then-flushing-clause-stands
returns-then-flushing-clause-stands c =
    on_ok c.begin_flush.result _ _
    (λ begins. λ o a n tl h. begun_as o a c.args.time n c.args.latency _ c.begin_flush.new.lines c.args.flushing true tl c.if-flushing.true
    (begins o a n _ (entered o a c.args.time n c.args.self.now _ c.args.lines.now (Latency c.args.latency) tl h
    (record { same = record { number = refl; session = refl; ssrc = refl; settings = c.set_latency.ensures.settings; pushes = c.set_latency.ensures.same }; counts = refl; stands = c.set_latency.ensures.stands }) refl)))
    c.begin_flush.ensures.stands

pub returns-else-flushing-clause-stands : goal.returns-else-flushing-clause-stands
returns-else-flushing-clause-stands c =
    λ o a n tl h. begun_as o a c.args.time n c.args.latency _ c.args.lines.now c.args.flushing false tl c.if-flushing.false
    (entered o a c.args.time n c.args.self.now _ c.args.lines.now (Latency c.args.latency) tl h
    (record { same = record { number = refl; session = refl; ssrc = refl; settings = c.set_latency.ensures.settings; pushes = c.set_latency.ensures.same }; counts = refl; stands = c.set_latency.ensures.stands }) refl)
