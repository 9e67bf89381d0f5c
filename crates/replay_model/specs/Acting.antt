-- What an item of the script does to the lanes. `o` tells how each lane began.
use Rattle.std.specs.Prelude.{ℕ, zero, suc, ◌==◌, List, [], ◌∷◌, Bool, true, if◌then◌else◌}
use Rattle.jitter_model.specs.declared.Entry.TheVariants.{Clock, FlushStart, FlushStop, Latency}
use Rattle.jitter_model.specs.Runs.{flush_count}
use Rattle.script_lang.specs.Contents.{Contents}
use Rattle.script_lang.specs.declared.script.Item.{Item}
use Rattle.script_lang.specs.declared.script.Action.{Action}
use Rattle.script_lang.specs.declared.script.Action.TheVariants as action
use Rattle.timeline.specs.declared.line.BinLine.TheVariants as told
use Rattle.front_model.specs.declared.Opening.{Opening}
use Rattle.replay_model.specs.Events.{Timeline, Acted, Told, At, lane}
use Rattle.replay_model.specs.Turning.{ticked}

-- The action is for the lanes of this session: a `clock` item is for all.
abbrev pub is_for : Action → ℕ → Bool
is_for action.Clock session = true
is_for (action.FlushStart of) session = of == session
is_for (action.FlushStop of) session = of == session
is_for (action.Latency of ns) session = of == session

-- a lane's flush begins
abbrev pub flush_begun : ℕ → ℕ → Timeline → Timeline
flush_begun t l tl = At t l (FlushStart (flush_count (lane l tl))) ∷ tl

-- what an action does to a lane
abbrev pub done_to : ℕ → ℕ → Action → Timeline → Timeline
done_to t l action.Clock tl = tl
done_to t l (action.FlushStart session) tl = flush_begun t l tl
done_to t l (action.FlushStop session) tl = At t l FlushStop ∷ tl
done_to t l (action.Latency session ns) tl =
    At t l (Latency ns) ∷ Told t (told.Latency t l ns) ∷ tl

-- a lane's clock comes to a time, and then this is done to it
abbrev pub acted_on : ℕ → ℕ → Action → Timeline → Timeline
acted_on t l a tl = done_to t l a (At t l (Clock t) ∷ tl)

-- to those of the first lanes that it is for, in order
abbrev pub all_acted : (ℕ → Opening) → ℕ → ℕ → Action → Timeline → Timeline
all_acted o t zero a tl = tl
all_acted o t (suc l) a tl =
    if is_for a (o l).session then acted_on t l a (all_acted o t l a tl) else all_acted o t l a tl

-- those of the first lanes that pass tick, in order
abbrev pub ticked_where : Contents → (ℕ → Opening) → ℕ → (ℕ → Bool) → ℕ → Timeline → Timeline
ticked_where c o t passes zero tl = tl
ticked_where c o t passes (suc l) tl =
    if passes l then ticked c o t l (ticked_where c o t passes l tl)
    else ticked_where c o t passes l tl

-- an item comes to the lanes that it is for, and then they take turns
abbrev pub acted : Contents → (ℕ → Opening) → ℕ → Item → Timeline → Timeline
acted c o count i tl =
    ticked_where c o i.time (λ l. is_for i.action (o l).session) count
    (all_acted o i.time count i.action (Acted i ∷ tl))
