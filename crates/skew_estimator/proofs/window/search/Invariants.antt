use Rattle.std.proofs.Common.{◌≡◌, ◌∷◌, take}
use Rattle.skew_model.specs.Skew.{least}
use Rattle.skew_estimator.proofs.window.search.Given as goal

abbrev pub invariant-loop-index : goal.invariant-loop-index
invariant-loop-index l = l.least ≡ least (l.difference ∷ take l.index l.differences.items)
