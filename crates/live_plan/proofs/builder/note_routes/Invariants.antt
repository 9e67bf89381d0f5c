use Rattle.std.proofs.Common.{◌≡◌, ◌++◌, take}
use Rattle.live_plan.specs.Courses.{routes}
use Rattle.live_plan.proofs.builder.note_routes.Given as goal

abbrev pub invariant-loop-step : goal.invariant-loop-step
invariant-loop-step l = l.noted.items ≡ l.initial.noted.items ++ routes (take l.step-index l.steps)
