use Rattle.std.proofs.Common.{◌∷◌, arith}
use Rattle.jitter_model.specs.declared.Entry.TheVariants.{Push}
use Rattle.jitter_core.proofs.Pushes.{push_keeps, push_value}
use Rattle.jitter_core.proofs.Reached.{reached_after}
use Rattle.jitter_core.proofs.buffer.Buffer.push.Goals as goal

pub push_on-requires-clause-range : goal.push_on-requires-clause-range
push_on-requires-clause-range g c = record { pusher = omega arith; k = omega arith; stamp = c.requires.stamp; seq = omega arith; rtp = omega arith; pt = omega arith; payload = omega arith }

pub push_on-requires-clause-reached : goal.push_on-requires-clause-reached
push_on-requires-clause-reached g c = c.args.self.now.reached

pub invariant_of-self : goal.invariant_of-self
invariant_of-self g c =
    record {
      reached = reached_after c.args.self.now.state c.push_on.new.state (λ h. Push c.args.a c.push_on.result.verdict c.push_on.result.number c.push_on.result.aside_dropped ∷ h)
          (λ h st. push_keeps c.runs_are_bounded.ensures c.replies_tell.ensures c.numbers_lie_between.ensures c.args.self.now.state c.push_on.new.state h c.args.a c.push_on.result st c.push_on.ensures.does c.requires.few
          (record { pusher = omega arith; k = omega arith; stamp = c.requires.stamp; seq = omega arith; rtp = omega arith; pt = omega arith; payload = omega arith }) c.requires.pusher) c.args.self.now.reached;
      timed = c.push_on.ensures.timed;
    }

pub returns-clause-stands : goal.returns-clause-stands
returns-clause-stands g c = λ h st.
    push_keeps c.runs_are_bounded.ensures c.replies_tell.ensures c.numbers_lie_between.ensures c.args.self.now.state c.push_on.new.state h c.args.a c.push_on.result st c.push_on.ensures.does c.requires.few
    (record { pusher = omega arith; k = omega arith; stamp = c.requires.stamp; seq = omega arith; rtp = omega arith; pt = omega arith; payload = omega arith }) c.requires.pusher

pub returns-clause-value : goal.returns-clause-value
returns-clause-value g c = λ h st. push_value c.runs_are_bounded.ensures c.replies_tell.ensures c.numbers_lie_between.ensures c.args.self.now.state c.push_on.new.state h c.args.a c.push_on.result st c.push_on.ensures.does
