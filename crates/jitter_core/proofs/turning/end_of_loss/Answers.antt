use Rattle.std.proofs.Common.{ℕ, ◌≡◌, Bool, true, ◌||◌, ◌+◌, ◌≤◌, arith, refl, sym, ◌∙◌}
use Rattle.jitter_model.specs.Turns.{ends_loss, deadline}
use Rattle.jitter_core.specs.Turning.{state_sight}
use Rattle.std.specs.Prelude.{is_some, nat_lt}
use Rattle.std.specs.FinMap as map
use Rattle.jitter_core.proofs.Losses.{least_from-skip, least_from-here, is_passed, is_coming}
use Rattle.jitter_core.proofs.turning.end_of_loss.Goals as goal
use Rattle.jitter_core.proofs.turning.end_of_loss.Goals.{then-has-via-then-has, then-has-via-else-has+then-state-deadline}

there : (b : Bool) (time deadline : ℕ) → b ≡ true → (b || nat_lt time deadline) ≡ true
there b time deadline e = rw e refl

pub returns-then-has-clause-value : goal.returns-then-has-clause-value
returns-then-has-clause-value c =
    let passes : ends_loss (state_sight c.args.state.now) c.loop-n.n ≡ true =
    elim c.then-has.branch [
      | then-has-via-then-has w ↦ there (is_some (map.get c.args.state.now.held c.loop-n.n)) c.args.state.now.progress.time (deadline (state_sight c.args.state.now) c.loop-n.n) (sym c.has.ensures ∙ w.if-has.true)
      | then-has-via-else-has+then-state-deadline w ↦ is_coming (is_some (map.get c.args.state.now.held c.loop-n.n)) c.args.state.now.progress.time (deadline (state_sight c.args.state.now) c.loop-n.n) (omega (arith, w.deadline.ensures, w.if-state-deadline.true))
    ] in
    least_from-here (ends_loss (state_sight c.args.state.now)) c.loop-n.n (c.args.from + c.args.count) (omega arith) passes ∙ c.loop-n.invariant.rest

pub loop-n-preserved : goal.loop-n-preserved
loop-n-preserved c =
    let passed : deadline (state_sight c.args.state.now) c.loop-n.n ≤ c.args.state.now.progress.time = omega (arith, c.deadline.ensures, c.if-state-deadline.false) in
    record {
      end = refl;
      rest = least_from-skip (ends_loss (state_sight c.args.state.now)) c.loop-n.n (c.args.from + c.args.count) (omega arith) (is_passed _ _ _ (sym c.has.ensures ∙ c.if-has.false) passed) ∙ c.loop-n.invariant.rest;
    }
