use Rattle.std.proofs.Common.{◌∷◌}
use Rattle.jitter_model.specs.declared.Entry.TheVariants.{FlushStop}
use Rattle.jitter_core.proofs.Passing.{resumed_keeps}
use Rattle.jitter_core.proofs.Reached.{reached_after}
use Rattle.jitter_core.proofs.Retiming.{resumed_timed}
use Rattle.jitter_core.proofs.buffer.Buffer.flush_stop.Goals as goal

pub invariant_of-self : goal.invariant_of-self
invariant_of-self c =
    record {
      reached = rw c.stop_flush.ensures (reached_after c.args.self.now.state _ (λ h. FlushStop ∷ h) (λ h st. resumed_keeps c.args.self.now.state h st) c.args.self.now.reached);
      timed = rw c.stop_flush.ensures (resumed_timed c.args.self.now.state c.args.self.now.schedule c.args.self.now.timed);
    }
