-- Timelines: all that happened, the newest first, and what is found in them.
use Rattle.std.specs.Prelude.{ℕ, ◌==◌, List, [], ◌∷◌, ◌++◌, max, if◌then◌else◌}
use Rattle.jitter_model.specs.declared.Entry.{Entry}
use Rattle.jitter_model.specs.History.{History}
use Rattle.ntp_sync.specs.Offsets.{Call}
use Rattle.script_lang.specs.declared.script.Item.{Item}
use Rattle.timeline.specs.declared.line.BinLine.{BinLine}
use Rattle.front_model.specs.declared.Opening.{Opening}
use Rattle.front_model.specs.Events.{FrontEvent}

-- An item of the script came; or at a time a record, a report time or a request came to the front,
-- a lane began, a line was told, a call of a lane came with its reply, or a lane's sender report was
-- kept under its source's CNAME.
pub data Event : Type 0 where
  Acted : Item → Event
  Fronted : ℕ → FrontEvent → Event
  Began : ℕ → Opening → Event
  Told : ℕ → BinLine → Event
  At : ℕ → ℕ → Entry → Event
  Kept : ℕ → Call → Event

-- all that happened, the newest first
abbrev pub Timeline : Type 0
Timeline = List Event

-- ---- times

abbrev pub event_time : Event → ℕ
event_time (Acted i) = i.time
event_time (Fronted t e) = t
event_time (Began t o) = t
event_time (Told t x) = t
event_time (At t l e) = t
event_time (Kept t call) = t

-- the greatest time at which something happened
abbrev pub latest : Timeline → ℕ
latest [] = 0
latest (e ∷ tl) = max (event_time e) (latest tl)

-- ---- parts of a timeline: each is all that happened to one thing

-- what came to the front
abbrev pub front : Timeline → List FrontEvent
front [] = []
front (Acted i ∷ tl) = front tl
front (Fronted t e ∷ tl) = e ∷ front tl
front (Began t o ∷ tl) = front tl
front (Told t x ∷ tl) = front tl
front (At t l e ∷ tl) = front tl
front (Kept t call ∷ tl) = front tl

-- the lanes as they began, in the order of their numbers
abbrev pub openings : Timeline → List Opening
openings [] = []
openings (Acted i ∷ tl) = openings tl
openings (Fronted t e ∷ tl) = openings tl
openings (Began t o ∷ tl) = openings tl ++ o ∷ []
openings (Told t x ∷ tl) = openings tl
openings (At t l e ∷ tl) = openings tl
openings (Kept t call ∷ tl) = openings tl

-- the history of a lane: its calls with their replies. A lane that isn't there has none
abbrev pub lane : ℕ → Timeline → History
lane l [] = []
lane l (Acted i ∷ tl) = lane l tl
lane l (Fronted t e ∷ tl) = lane l tl
lane l (Began t o ∷ tl) = lane l tl
lane l (Told t x ∷ tl) = lane l tl
lane l (At t k e ∷ tl) = if k == l then e ∷ lane l tl else lane l tl
lane l (Kept t call ∷ tl) = lane l tl

-- the sender reports that were kept
abbrev pub kept : Timeline → List Call
kept [] = []
kept (Acted i ∷ tl) = kept tl
kept (Fronted t e ∷ tl) = kept tl
kept (Began t o ∷ tl) = kept tl
kept (Told t x ∷ tl) = kept tl
kept (At t l e ∷ tl) = kept tl
kept (Kept t call ∷ tl) = call ∷ kept tl

-- the items that came
abbrev pub items : Timeline → List Item
items [] = []
items (Acted i ∷ tl) = i ∷ items tl
items (Fronted t e ∷ tl) = items tl
items (Began t o ∷ tl) = items tl
items (Told t x ∷ tl) = items tl
items (At t l e ∷ tl) = items tl
items (Kept t call ∷ tl) = items tl
