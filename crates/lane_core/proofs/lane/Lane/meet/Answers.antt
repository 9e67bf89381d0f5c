use Rattle.std.proofs.Common.{refl, sym, ap, ◌∙◌}
use Rattle.jitter_model.specs.declared.Entry.TheVariants.{Clock}
use Rattle.lane_core.proofs.Totals.{call_counted}
use Rattle.lane_core.proofs.Entering.{entered}
use Rattle.lane_core.proofs.Outcomes.{on_ok}
use Rattle.lane_core.proofs.lane.Lane.meet.Goals as goal

pub invariant_of-self : goal.invariant_of-self
invariant_of-self c =
    record {
      counted = call_counted c.args.self.now.buffer c.clock.new.self c.args.self.now.counts (Clock c.args.item.now.time) c.clock.ensures.stands (λ h. record { out = refl; lost = refl; refused = refl }) c.args.self.now.counted;
      known = c.args.self.now.known ∙ ap (λ s. s.pushers) (sym c.clock.ensures.settings);
    }

pub returns-clause-stands : goal.returns-clause-stands
returns-clause-stands c =
    on_ok c.act.result _ _
    (λ acts. λ o a n tl h. acts o a n _ (entered o a c.args.item.now.time n c.args.self.now _ c.args.lines.now (Clock c.args.item.now.time) tl h
    (record { same = record { number = refl; session = refl; ssrc = refl; settings = c.clock.ensures.settings; pushes = c.clock.ensures.same }; counts = refl; stands = c.clock.ensures.stands }) refl))
    c.act.ensures.stands
