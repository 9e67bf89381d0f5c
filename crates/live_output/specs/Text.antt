-- The text of a run's histories: fields separated by one space, numbers in decimal.
use Rattle.std.specs.Prelude.{ℕ, List, ◌++◌, codes, Bool, false, flat_map}
use Rattle.std.specs.Fmt.{decimal}
use Rattle.log_text.specs.Text.{line_text, ssrc_text}
use Rattle.live_text.specs.Text.{entry_text}
use Rattle.live_bin.specs.declared.history.LaneHistory.{LaneHistory}
use Rattle.live_bin.specs.declared.plan.Plan.{Plan}
use Rattle.live_bin.specs.declared.plan.PlanLane.{PlanLane}
use Rattle.live_bin.specs.Lookup.{lane_of}
use Rattle.live_output.specs.declared.clocks.LaneClock.{LaneClock}
use Rattle.live_output.specs.Clocks.{clocks, offset}
use Rattle.live_output.specs.Numbered.{flat_map_from}
use Rattle.live_output.specs.Totals.{done_line}

-- a lane's number, its session, and its SSRC in eight hexadecimal digits
abbrev pub header_words : ℕ → ℕ → ℕ → List ℕ
header_words lane session ssrc =
    codes "history " ++ decimal lane ++ codes " " ++ decimal session ++ codes " " ++ ssrc_text ssrc

abbrev pub header_text : ℕ → PlanLane → List ℕ
header_text lane l = header_words lane l.session l.ssrc ++ codes "\n"

-- a lane's header and its journal, whose entries count from 0
abbrev pub history_text : Bool → Plan → ℕ → LaneHistory → List ℕ
history_text hex p lane h =
    header_text lane (lane_of p lane) ++ flat_map_from (entry_text hex) 0 h.entries.items

-- a lane's number and its offset in nanoseconds
abbrev pub offset_words : ℕ → ℕ → List ℕ
offset_words lane ns = codes "offset " ++ decimal lane ++ codes " " ++ decimal ns

abbrev pub offset_text : List LaneClock → LaneClock → List ℕ
offset_text all c = offset_words c.lane (offset all c) ++ codes "\n"

abbrev pub offsets_text : List LaneClock → List ℕ
offsets_text all = flat_map (offset_text all) all

abbrev pub histories_text : Bool → Plan → List LaneHistory → List ℕ
histories_text hex p hs = flat_map_from (history_text hex p) 0 hs

-- the offsets of the lanes' clocks, and what became of the packets
abbrev pub ending_text : Plan → List LaneHistory → List ℕ
ending_text p hs = offsets_text (clocks p hs) ++ line_text false (done_line p hs)

abbrev pub live_text : Bool → Plan → List LaneHistory → List ℕ
live_text hex p hs = histories_text hex p hs ++ ending_text p hs
