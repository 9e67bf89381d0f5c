-- The end of a replay. `o` tells how each lane began.
use Rattle.std.specs.Prelude.{ℕ, zero, suc, ◌∷◌, if◌then◌else◌, false}
use Rattle.jitter_model.specs.declared.Entry.TheVariants.{Ends}
use Rattle.jitter_model.specs.History.{is_pusher, pusher_count}
use Rattle.script_lang.specs.Contents.{Contents}
use Rattle.front_model.specs.declared.Opening.{Opening}
use Rattle.replay_model.specs.declared.TheConstants.{END_OF_TIME}
use Rattle.replay_model.specs.Events.{Timeline, At, latest}
use Rattle.replay_model.specs.Lanes.{lane_count, opened}
use Rattle.replay_model.specs.Turning.{settled}
use Rattle.replay_model.specs.Serving.{serve}

-- those of the first pushers that are the lane's end, in order, and turns are taken after each
abbrev pub pushers_ended : Contents → (ℕ → Opening) → ℕ → ℕ → ℕ → Timeline → Timeline
pushers_ended c o t l zero tl = tl
pushers_ended c o t l (suc p) tl =
    if is_pusher (o l).settings.pushers p
    then settled c o t l (At t l (Ends p) ∷ pushers_ended c o t l p tl)
    else pushers_ended c o t l p tl

-- the first lanes end, in order
abbrev pub all_ended : Contents → (ℕ → Opening) → ℕ → ℕ → Timeline → Timeline
all_ended c o t zero tl = tl
all_ended c o t (suc l) tl = pushers_ended c o t l pusher_count (all_ended c o t l tl)

abbrev pub ended_at_last : Contents → (ℕ → Opening) → ℕ → Timeline → Timeline
ended_at_last c o count tl = all_ended c o (latest tl) count tl

-- The wakes that are left are served, without report times, until there is none; then at the last
-- time the lanes end.
abbrev pub closed : Contents → Timeline → Timeline
closed c tl =
    ended_at_last c (opened c tl) (lane_count tl)
    (serve c (opened c tl) false (lane_count tl) END_OF_TIME tl)
