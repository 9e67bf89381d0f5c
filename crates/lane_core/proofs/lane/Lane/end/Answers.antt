use Rattle.std.proofs.Common.{refl, sym, ap, ◌∙◌}
use Rattle.jitter_model.specs.declared.Entry.TheVariants.{Ends}
use Rattle.replay_model.specs.Turning.{asked}
use Rattle.lane_core.proofs.Histories.{lane_here}
use Rattle.lane_core.proofs.Totals.{call_counted}
use Rattle.lane_core.proofs.Entering.{entered}
use Rattle.lane_core.proofs.Outcomes.{if_ok}
use Rattle.lane_core.proofs.lane.Lane.end.Goals as goal

pub invariant_of-self : goal.invariant_of-self
invariant_of-self c =
    record {
      counted = call_counted c.args.self.now.buffer c.end.new.self c.args.self.now.counts (Ends c.args.pusher) c.end.ensures.stands (λ h. record { out = refl; lost = refl; refused = refl }) c.args.self.now.counted;
      known = c.args.self.now.known ∙ ap (λ s. s.pushers) (sym c.end.ensures.settings);
    }

pub returns-clause-stands : goal.returns-clause-stands
returns-clause-stands c =
    if_ok c.settle.result _ _
    (λ numbers settles. λ o a n tl h. settles o a n _ (ap asked (lane_here c.args.time n (Ends c.args.pusher) tl))
    (entered o a c.args.time n c.args.self.now _ c.args.lines.now (Ends c.args.pusher) tl h
    (record { same = record { number = refl; session = refl; ssrc = refl; settings = c.end.ensures.settings; pushes = c.end.ensures.same }; counts = refl; stands = c.end.ensures.stands }) refl))
    c.settle.ensures.stands
