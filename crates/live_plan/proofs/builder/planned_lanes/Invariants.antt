use Rattle.std.proofs.Common.{◌≡◌, List, map}
use Rattle.front_model.specs.Events.{FrontEvent}
use Rattle.rtp_front.specs.Standing.{StandsFor}
use Rattle.live_plan.specs.Taken.{finished}
use Rattle.live_plan.proofs.builder.planned_lanes.Given as goal

abbrev pub invariant-loop-draft : goal.invariant-loop-draft
invariant-loop-draft l = (events : List FrontEvent) → StandsFor l.front l.script events → l.lanes.items ≡ map (finished l.script events) l.yielded
