-- What the steps of a replay promise each other.
use Rattle.std.specs.Prelude.{◌≡◌, ◌≤◌, ℕ, false, List, [], ◌∷◌, ◌++◌, drop, length}
use Rattle.std.specs.Prelude.{Option, Result, Ok, Err}
use Rattle.rtp_io.specs.Outside.{AddsFront}
use Rattle.pcap_file.specs.Capture.{Record}
use Rattle.script_lang.specs.declared.script.Item.{Item}
use Rattle.script_lang.specs.Contents.{Contents}
use Rattle.timeline.specs.declared.line.BinLine.{BinLine}
use Rattle.timeline.specs.Times.{at_times}
use Rattle.replay_model.specs.Fitting.{IsItem}
use Rattle.replay_model.specs.Inputs.{Input, inputs, items_left}
use Rattle.replay_model.specs.Log.{log_part, log}
use Rattle.replay_model.specs.Order.{input_time}
use Rattle.bin_core.specs.Words.{records_of, time_of, ahead_of, is_finished}
use Rattle.bin_core.specs.Bins.{BinStands}
use Rattle.replay_command.specs.declared.player.Player.{Player}
use Rattle.command_core.specs.declared.stop.Stop.{Stop}
use Rattle.replay_command.specs.declared.rendering.Rendering.{Rendering}
use Rattle.replay_command.specs.Rendered.{Wrote, WasGiven, style_of, text_by}
use Rattle.command_core.specs.Steps.{Writes}

-- items in their ranges and in order of time, none before this time
abbrev pub AreItems : ℕ → List Item → Type 0
AreItems t [] = Unit {0}
AreItems t (i ∷ is) = (t ≤ i.time) × IsItem i × AreItems i.time is

-- the time behind items in order of time, from this time on
abbrev pub time_behind : ℕ → List Item → ℕ
time_behind t [] = t
time_behind t (i ∷ is) = time_behind i.time is

-- All lines are written, nothing was served since the last input, and the end is to come.
pub record IsReady (p : Player) : Type 0 where
  pub none : p.lines ≡ []
  pub level : ahead_of p.bin ≡ false
  pub running : is_finished p.bin ≡ false

-- a player of this script before any input
pub record IsFresh (c : Contents) (r : Rendering) (p : Player) : Type 0 where
  pub ready : IsReady p
  pub rendering : p.rendering ≡ r
  pub records : records_of p.bin ≡ 0
  pub time : time_of p.bin ≡ 0
  pub stands : BinStands c p.bin [] []

-- The player was given these inputs since the output had these bytes, and wrote all that goes out
-- for their log.
pub record Plays (c : Contents) (p : Player) (seen : List Input) (start now : Option (List ℕ))
    : Type 0 where
  pub stands : BinStands c p.bin seen []
  pub wrote : Wrote p.rendering (log_part c seen) start now

-- It also wrote lines of what is due since.
pub record PlaysAhead (c : Contents) (p : Player) (seen : List Input) (start now : Option (List ℕ))
    : Type 0 where
  pub told : List BinLine
  pub stands : BinStands c p.bin seen told
  pub wrote : Wrote p.rendering (log_part c seen ++ told) start now

-- What is due up to a time was served, from one content of the output to the other. Where that
-- failed, what was written begins the log of whatever comes from then on.
abbrev pub PlaysUpTo : Result (Unit {0}) Stop → ℕ → Player → Player
    → Option (List ℕ) → Option (List ℕ) → Type 0
PlaysUpTo (Ok x) t p q old new =
    (c : Contents) (seen : List Input) (start : Option (List ℕ))
    → Plays c p seen start old → PlaysAhead c q seen start new
PlaysUpTo (Err why) t p q old new =
    (c : Contents) (seen : List Input) (start : Option (List ℕ)) (x : Input) → t ≤ input_time x
    → Plays c p seen start old
    → AddsFront (text_by (style_of p.rendering) (log_part c (seen ++ x ∷ []))) start new

-- it was given these inputs more
abbrev pub PlaysMore : Result (Unit {0}) Stop → Player → Player → List Input
    → Option (List ℕ) → Option (List ℕ) → Type 0
PlaysMore (Ok x) p q more old new =
    (c : Contents) (seen : List Input) (start : Option (List ℕ))
    → Plays c p seen start old → Plays c q (seen ++ more) start new
PlaysMore (Err why) p q more old new =
    (c : Contents) (seen : List Input) (start : Option (List ℕ))
    → Plays c p seen start old
    → AddsFront (text_by (style_of p.rendering) (log_part c (seen ++ more))) start new

-- it was given these inputs and then the end
abbrev pub PlaysLast : Result (Unit {0}) Stop → Player → List Input
    → Option (List ℕ) → Option (List ℕ) → Type 0
PlaysLast result p more old new =
    (c : Contents) (seen : List Input) (start : Option (List ℕ))
    → Plays c p seen start old
    → Writes result (text_by (style_of p.rendering) (log c (seen ++ more))) start new

-- ---- a replay, record by record

-- So many of the script's items were given to the player, and none of the others is before its
-- time.
pub record CanReplay (c : Contents) (p : Player) (given : ℕ) : Type 0 where
  pub ready : IsReady p
  pub few : given ≤ length c.items
  pub are : AreItems (time_of p.bin) (drop given c.items)

-- It was given these records, each at its time, and the items up to the last of them.
pub record Replayed (c : Contents) (p : Player) (given : ℕ) (seen : List Record) : Type 0 where
  pub stands : BinStands c p.bin (inputs c.items (at_times seen)) []
  pub left : drop given c.items ≡ items_left c.items (at_times seen)
  pub told : WasGiven p.rendering (log_part c (inputs c.items (at_times seen)))
