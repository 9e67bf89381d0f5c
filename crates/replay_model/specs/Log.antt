-- The log of inputs: the records of a capture at their times, and the items of a script.
use Rattle.std.specs.Prelude.{ℕ, ◌≡◌, List, [], ◌∷◌, ◌++◌, true, reverse}
use Rattle.script_lang.specs.Contents.{Contents}
use Rattle.script_lang.specs.declared.script.Item.{Item}
use Rattle.timeline.specs.declared.line.BinLine.{BinLine}
use Rattle.front_model.specs.Events.{Came, records}
use Rattle.timeline.specs.Times.{Timed, at_times}
use Rattle.replay_model.specs.Inputs.{Input, OfCapture, OfScript, all_inputs}
use Rattle.replay_model.specs.Events.{Timeline, front}
use Rattle.replay_model.specs.Lines.{lines, done_line}
use Rattle.replay_model.specs.Lanes.{lane_count, opened}
use Rattle.replay_model.specs.Serving.{serve}
use Rattle.replay_model.specs.Acting.{acted}
use Rattle.replay_model.specs.Taking.{taken}
use Rattle.replay_model.specs.Ending.{closed}

-- all report times and wakes up to a limit
abbrev pub served : Contents → ℕ → Timeline → Timeline
served c limit tl = serve c (opened c tl) true (lane_count tl) limit tl

-- an item comes to all lanes
abbrev pub with_item : Contents → Item → Timeline → Timeline
with_item c i tl = acted c (opened c tl) (lane_count tl) i tl

-- an input: what is due up to its time comes before it
abbrev pub with_input : Contents → Input → Timeline → Timeline
with_input c (OfCapture r) tl = taken c r.time (Came r.time r.captured) (served c r.time tl)
with_input c (OfScript i) tl = with_item c i (served c i.time tl)

-- what happened up to these inputs, the newest of which is the first
abbrev pub timeline : Contents → List Input → Timeline
timeline c [] = []
timeline c (x ∷ older) = with_input c x (timeline c older)

abbrev pub whole_timeline : Contents → List Input → Timeline
whole_timeline c xs = closed c (timeline c xs)

-- the lines up to and with those of the last input
abbrev pub log_part : Contents → List Input → List BinLine
log_part c xs = lines (timeline c (reverse xs))

-- the last line of a timeline
abbrev pub done_of : Timeline → BinLine
done_of tl = done_line (records (front tl)) (lane_count tl) (lines tl)

abbrev pub with_done : Timeline → List BinLine
with_done tl = lines tl ++ done_of tl ∷ []

-- all lines
abbrev pub log : Contents → List Input → List BinLine
log c xs = with_done (whole_timeline c (reverse xs))

-- the one list begins the other
abbrev pub Begins : List BinLine → List BinLine → Type 0
Begins xs ys = (more : List BinLine) × (ys ≡ xs ++ more)
