use Rattle.std.proofs.Common.{◌≡◌, ◌+◌, ◌-◌}
use Rattle.jitter_model.specs.Turns.{least_from, ends_loss}
use Rattle.jitter_core.specs.Turning.{state_sight}
use Rattle.jitter_core.proofs.turning.end_of_loss.Given as goal

abbrev pub invariant-loop-n : goal.invariant-loop-n
invariant-loop-n l =
    record {
      end : l.n-end ≡ l.from + l.count;
      rest : least_from (ends_loss (state_sight l.state)) l.n (l.n-end - l.n) ≡ least_from (ends_loss (state_sight l.state)) l.from l.count;
    }
