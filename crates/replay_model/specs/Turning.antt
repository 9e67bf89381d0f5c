-- Turns of a lane, and what it asks for in them. `o` tells how each lane began.
use Rattle.std.specs.Prelude.{ℕ, zero, suc, ◌==◌, ◌%◌, List, [], ◌∷◌, ◌++◌, if◌then◌else◌}
use Rattle.jitter_model.specs.declared.Entry.{Entry}
use Rattle.jitter_model.specs.declared.Entry.TheVariants.{Push, Clock, FlushStart, FlushStop, Latency, Report, Ends, Turned}
use Rattle.jitter_model.specs.declared.Turn.{Turn}
use Rattle.jitter_model.specs.declared.Turn.TheVariants as turns
use Rattle.jitter_model.specs.Turns.{turn, is_quiet, left}
use Rattle.rtx.specs.declared.requests.Request.{Request}
use Rattle.script_lang.specs.Contents.{Contents}
use Rattle.timeline.specs.declared.line.BinLine.TheVariants as told
use Rattle.front_model.specs.declared.Opening.{Opening}
use Rattle.front_model.specs.Events.{Requested}
use Rattle.front_model.specs.Reports.{nack_bytes}
use Rattle.replay_model.specs.Events.{Event, Acted, Fronted, Began, Told, At, Kept, Timeline, lane}

-- ---- turns

-- a turn of a lane
abbrev pub turned : (ℕ → Opening) → ℕ → ℕ → Timeline → Timeline
turned o t l tl = At t l (Turned (turn (o l).settings (lane l tl))) ∷ tl

-- turns of a lane, until one is answered Idle or Flushing, and at most so many
abbrev pub turns_up_to : ℕ → (ℕ → Opening) → ℕ → ℕ → Timeline → Timeline
turns_up_to zero o t l tl = tl
turns_up_to (suc n) o t l tl =
    if is_quiet (turn (o l).settings (lane l tl)) then tl
    else turns_up_to n o t l (turned o t l tl)

-- turns of a lane, until one is answered Idle or Flushing: there are no more of others than `left`
-- says
abbrev pub all_turns : (ℕ → Opening) → ℕ → ℕ → Timeline → Timeline
all_turns o t l tl = turns_up_to (left (o l).settings (lane l tl)) o t l tl

-- ---- requests

-- the 16 bits of a number that is asked for
abbrev pub asked_by : Turn → List ℕ
asked_by (turns.Request n k) = n % 65536 ∷ []
asked_by r = []

abbrev pub asked_with : Entry → List ℕ → List ℕ
asked_with (Turned r) before = before ++ asked_by r
asked_with e before = []

-- the numbers that are asked for in the turns that a history ends with, in the order made
abbrev pub asked : List Entry → List ℕ
asked [] = []
asked (e ∷ h) = asked_with e (asked h)

abbrev pub request : Opening → ℕ → Request
request o seq = record { session = o.session; ssrc = o.ssrc; seq = seq }

-- the requests for these numbers come to the front
abbrev pub all_requested : Opening → ℕ → List ℕ → Timeline → Timeline
all_requested o t [] tl = tl
all_requested o t (seq ∷ more) tl =
    all_requested o t more (Fronted t (Requested (request o seq)) ∷ tl)

-- what was asked for is sent, and noted by the front
abbrev pub sent : Contents → Opening → ℕ → List ℕ → Timeline → Timeline
sent c o t [] tl = tl
sent c o t (seq ∷ more) tl =
    all_requested o t (seq ∷ more)
    (Told t (told.Nack t o.session (nack_bytes c.settings.ssrc o.ssrc (seq ∷ more))) ∷ tl)

-- ---- a series

-- what a lane asked for in its last turns is sent
abbrev pub all_sent : Contents → (ℕ → Opening) → ℕ → ℕ → Timeline → Timeline
all_sent c o t l tl = sent c (o l) t (asked (lane l tl)) tl

-- a series of turns of a lane, and what it asked for is sent
abbrev pub settled : Contents → (ℕ → Opening) → ℕ → ℕ → Timeline → Timeline
settled c o t l tl = all_sent c o t l (all_turns o t l tl)

-- a lane's clock comes to a time, and it takes turns
abbrev pub ticked : Contents → (ℕ → Opening) → ℕ → ℕ → Timeline → Timeline
ticked c o t l tl = settled c o t l (At t l (Clock t) ∷ tl)
