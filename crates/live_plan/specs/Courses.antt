-- The order in which the workers of a run act.
use Rattle.std.specs.Prelude.{◌≡◌, ℕ, List, [], ◌∷◌, filter_map, flat_map, Option, Some, None}
use Rattle.pcap_file.specs.Capture.{Record}
use Rattle.script_lang.specs.Contents.{Contents}
use Rattle.script_lang.specs.declared.script.Item.{Item}
use Rattle.script_lang.specs.declared.script.Action.{Action}
use Rattle.script_lang.specs.declared.script.Action.TheVariants as action
use Rattle.front_model.specs.declared.Step.{Step}
use Rattle.front_model.specs.declared.Step.TheVariants as step
use Rattle.front_model.specs.Plan.{plan}
use Rattle.live_bin.specs.declared.course.Route.{Route}
use Rattle.live_bin.specs.declared.course.Course.{Course}

abbrev pub route : ℕ → ℕ → Route
route session lane = record { session = session; lane = lane }

-- the way of what a step brings, if it brings something
abbrev pub route_of : Step → Option Route
route_of (step.Tell line) = None
route_of (step.Open opening) = None
route_of (step.Push lane a) = Some (route a.pusher lane)
route_of (step.Sync lane r) = Some (route r.pusher lane)

-- the ways of all that steps bring, the first one first
abbrev pub routes : List Step → List Route
routes steps = filter_map route_of steps

-- whom the control events of an action concern: one session's event stands behind a step of its
-- clock, and a step of the clock by itself is for all
abbrev pub concerned_in : Action → List (Option ℕ)
concerned_in action.Clock = None ∷ []
concerned_in (action.FlushStart session) = Some session ∷ Some session ∷ []
concerned_in (action.FlushStop session) = Some session ∷ Some session ∷ []
concerned_in (action.Latency session ns) = Some session ∷ Some session ∷ []

abbrev pub concerned_by : Item → List (Option ℕ)
concerned_by i = concerned_in i.action

-- the course of a script and all records of a capture
pub record IsCourseOf (c : Contents) (records : List Record) (x : Course) : Type 0 where
  pub routes_are : x.routes.items ≡ routes (plan c records)
  pub events_are : x.events.items ≡ flat_map concerned_by c.items
