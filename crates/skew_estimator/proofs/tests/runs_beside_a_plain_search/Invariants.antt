use Rattle.skew_estimator.specs.Estimator.{IsStarted}
use Rattle.skew_estimator.proofs.tests.runs_beside_a_plain_search.Given as goal

abbrev pub invariant-loop : goal.invariant-loop
invariant-loop l = IsStarted l.skew
