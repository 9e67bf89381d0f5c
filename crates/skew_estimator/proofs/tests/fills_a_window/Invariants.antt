use Rattle.skew_estimator.specs.Estimator.{IsStarted}
use Rattle.skew_estimator.proofs.tests.fills_a_window.Given as goal

abbrev pub invariant-loop-i : goal.invariant-loop-i
invariant-loop-i l = IsStarted l.skew
