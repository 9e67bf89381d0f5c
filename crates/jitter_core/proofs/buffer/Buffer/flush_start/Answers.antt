use Rattle.std.proofs.Common.{refl, ◌∷◌, ◌∙◌}
use Rattle.jitter_model.specs.declared.Entry.TheVariants.{FlushStart}
use Rattle.jitter_core.proofs.Passing.{flushed_keeps, flush_count_is}
use Rattle.jitter_core.proofs.Retiming.{stale_timed}
use Rattle.jitter_core.proofs.Reached.{reached_after, reached_bounded}
use Rattle.jitter_core.proofs.buffer.Buffer.flush_start.Goals as goal

pub start_flush-requires : goal.start_flush-requires
start_flush-requires c = reached_bounded c.runs_are_bounded.ensures c.replies_tell.ensures c.numbers_lie_between.ensures c.args.self.now.state c.args.self.now.reached

pub invariant_of-self : goal.invariant_of-self
invariant_of-self c =
    record {
      reached = reached_after c.args.self.now.state c.start_flush.new.state (λ h. FlushStart c.start_flush.result ∷ h)
          (λ h st. flushed_keeps c.args.self.now.state c.start_flush.new.state h c.start_flush.result st c.start_flush.ensures.dropped c.start_flush.ensures.does) c.args.self.now.reached;
      timed = stale_timed _ _ c.args.self.now.timed.room refl;
    }

pub returns-clause-stands : goal.returns-clause-stands
returns-clause-stands c = λ h st. flushed_keeps c.args.self.now.state c.start_flush.new.state h c.start_flush.result st c.start_flush.ensures.dropped c.start_flush.ensures.does

pub returns-clause-value : goal.returns-clause-value
returns-clause-value c = λ h st. c.start_flush.ensures.dropped ∙ flush_count_is c.args.self.now.state h st.order
