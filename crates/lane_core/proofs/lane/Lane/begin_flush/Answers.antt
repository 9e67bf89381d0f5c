use Rattle.std.proofs.Common.{refl, sym, ap, ◌++◌, ◌∷◌, [], ◌∙◌, ℕ}
use Rattle.jitter_model.specs.declared.Entry.TheVariants.{FlushStart}
use Rattle.timeline.specs.declared.line.BinLine.TheVariants.{Flush}
use Rattle.lane_core.proofs.Totals.{call_counted}
use Rattle.lane_core.proofs.Entering.{flush_tells}
use Rattle.lane_core.proofs.Outcomes.{on_ok}
use Rattle.lane_core.proofs.lane.Lane.begin_flush.Goals as goal

pub invariant_of-self : goal.invariant_of-self
invariant_of-self c =
    record {
      counted = call_counted c.args.self.now.buffer c.flush_start-count.new.self c.args.self.now.counts (FlushStart c.flush_start-count.result) c.flush_start-count.ensures.stands (λ h. record { out = refl; lost = refl; refused = refl }) c.args.self.now.counted;
      known = c.args.self.now.known ∙ ap (λ s. s.pushers) (sym c.flush_start-count.ensures.settings);
    }

pub returns-clause-stands : goal.returns-clause-stands
returns-clause-stands c =
    on_ok c.push.result _ _
    (λ pushed. λ o a n tl h. flush_tells o a c.args.time n c.args.self.now _ c.args.lines.now c.push.new.self c.flush_start-count.result tl h
    (record { same = record { number = refl; session = refl; ssrc = refl; settings = c.flush_start-count.ensures.settings; pushes = c.flush_start-count.ensures.same }; counts = refl; stands = c.flush_start-count.ensures.stands })
    c.flush_start-count.ensures.value
    (λ e. pushed ∙ ap (λ (m : ℕ). c.args.lines.now ++ Flush c.args.time m c.flush_start-count.result ∷ []) e))
    c.push.ensures.ok
