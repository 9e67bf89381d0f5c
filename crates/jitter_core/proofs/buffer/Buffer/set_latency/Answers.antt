use Rattle.std.proofs.Common.{refl, ◌∷◌}
use Rattle.jitter_model.specs.declared.Entry.TheVariants.{Latency}
use Rattle.jitter_core.proofs.Passing.{delayed_keeps}
use Rattle.jitter_core.proofs.Retiming.{stale_timed}
use Rattle.jitter_core.proofs.Reached.{reached_after}
use Rattle.jitter_core.proofs.buffer.Buffer.set_latency.Goals as goal

pub invariant_of-self : goal.invariant_of-self
invariant_of-self c =
    record {
      reached = rw c.delay.ensures (reached_after c.args.self.now.state _ (λ h. Latency c.args.ns ∷ h) (λ h st. delayed_keeps c.args.self.now.state h c.args.ns c.requires st) c.args.self.now.reached);
      timed = stale_timed _ _ c.args.self.now.timed.room refl;
    }
