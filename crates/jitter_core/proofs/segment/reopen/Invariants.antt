use Rattle.std.proofs.Common.{◌≡◌, [], length}
use Rattle.jitter_core.specs.Steps.{run_of}
use Rattle.jitter_core.specs.Pushing.{Opening}
use Rattle.jitter_core.proofs.segment.reopen.Given as goal

abbrev pub invariant-loop-earlier : goal.invariant-loop-earlier
invariant-loop-earlier l =
    record {
      settings : l.state.settings ≡ l.fn.state.settings;
      progress : l.state.progress ≡ l.fn.state.progress;
      none : l.state.aside ≡ [];
      opening : Opening l.state l.aside (run_of l.fn.state);
    }

abbrev pub decreases-loop-earlier : goal.decreases-loop-earlier
decreases-loop-earlier l = length l.aside
