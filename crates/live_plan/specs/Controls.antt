-- What a script's timed items do to the lanes of a session.
use Rattle.std.specs.Prelude.{ℕ, ◌==◌, if◌then◌else◌, List, [], ◌∷◌, flat_map}
use Rattle.script_lang.specs.Contents.{Contents}
use Rattle.script_lang.specs.declared.script.Item.{Item}
use Rattle.script_lang.specs.declared.script.Action.{Action}
use Rattle.script_lang.specs.declared.script.Action.TheVariants as action
use Rattle.live_bin.specs.declared.plan.ControlEvent.{ControlEvent}
use Rattle.live_bin.specs.declared.plan.ControlEvent.TheVariants.{Clock, FlushStart, FlushStop}
use Rattle.live_bin.specs.declared.plan.ControlEvent.TheVariants.{Latency}

-- an event behind the step of the clock to its time
abbrev pub clocked : ℕ → ControlEvent → List ControlEvent
clocked t x = Clock t ∷ x ∷ []

-- an action at a time: a step of the clock is for all sessions
abbrev pub events_by : ℕ → ℕ → Action → List ControlEvent
events_by session t action.Clock = Clock t ∷ []
events_by session t (action.FlushStart of) = if of == session then clocked t FlushStart else []
events_by session t (action.FlushStop of) = if of == session then clocked t FlushStop else []
events_by session t (action.Latency of ns) = if of == session then clocked t (Latency ns) else []

abbrev pub events_of : ℕ → Item → List ControlEvent
events_of session i = events_by session i.time i.action

-- the control list of a session's lanes
abbrev pub controls : Contents → ℕ → List ControlEvent
controls c session = flat_map (events_of session) c.items
