-- What a lane is by what happened: how it began, and how its session stood then.
use Rattle.std.specs.Prelude.{ℕ, ◌==◌, Bool, true, false, List, [], ◌∷◌, length, Option, Some, None, slice_get, if◌then◌else◌}
use Rattle.jitter_model.specs.declared.Settings.{Settings}
use Rattle.script_lang.specs.Contents.{Contents}
use Rattle.script_lang.specs.declared.script.Item.{Item}
use Rattle.script_lang.specs.declared.script.Action.{Action}
use Rattle.script_lang.specs.declared.script.Action.TheVariants as action
use Rattle.front_model.specs.declared.Opening.{Opening}
use Rattle.front_model.specs.Steps.{opening}
use Rattle.replay_model.specs.Events.{Timeline, openings, items}

-- ---- how lanes began

-- how many lanes there are
abbrev pub lane_count : Timeline → ℕ
lane_count tl = length (openings tl)

-- a lane that isn't there is as one of session 0 that nobody sends to
abbrev pub opening_or : Contents → ℕ → Option Opening → Opening
opening_or c l None = opening c l 0 0 1
opening_or c l (Some o) = o

-- how each lane began: its stream and its settings
abbrev pub opened : Contents → Timeline → ℕ → Opening
opened c tl l = opening_or c l (slice_get (openings tl) l)

-- ---- how a session stands by the items, the newest of which is the first

abbrev pub latency_by : ℕ → Action → ℕ → ℕ
latency_by session (action.Latency of ns) was = if of == session then ns else was
latency_by session action was = was

-- its latest latency: the script's before any item sets one
abbrev pub latency_after : Contents → ℕ → List Item → ℕ
latency_after c session [] = c.settings.latency
latency_after c session (i ∷ older) = latency_by session i.action (latency_after c session older)

abbrev pub flushing_by : ℕ → Action → Bool → Bool
flushing_by session (action.FlushStart of) was = if of == session then true else was
flushing_by session (action.FlushStop of) was = if of == session then false else was
flushing_by session action was = was

-- whether a flush of it runs
abbrev pub is_flushing_after : ℕ → List Item → Bool
is_flushing_after session [] = false
is_flushing_after session (i ∷ older) =
    flushing_by session i.action (is_flushing_after session older)

abbrev pub latency_of : Contents → ℕ → Timeline → ℕ
latency_of c session tl = latency_after c session (items tl)

abbrev pub is_flushing_of : ℕ → Timeline → Bool
is_flushing_of session tl = is_flushing_after session (items tl)
