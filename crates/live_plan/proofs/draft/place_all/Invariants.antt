use Rattle.std.proofs.Common.{List, ◌++◌}
use Rattle.front_model.specs.declared.Step.{Step}
use Rattle.live_plan.specs.Drafts.{AreDrafts}
use Rattle.live_plan.proofs.draft.place_all.Given as goal

abbrev pub invariant-loop-step : goal.invariant-loop-step
invariant-loop-step l = (before : List Step) → AreDrafts before l.initial.drafts.items → AreDrafts (before ++ l.yielded) l.drafts.items
