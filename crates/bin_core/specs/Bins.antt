-- The inputs that a bin stands for, and what its calls tell.
use Rattle.std.specs.Prelude.{ℕ, ◌≡◌, ◌≤◌, ◌++◌, List, [], ◌∷◌, false, reverse}
use Rattle.pcap_file.specs.declared.record.PcapRecord.{PcapRecord}
use Rattle.pcap_file.specs.Reading.{record_view}
use Rattle.script_lang.specs.Contents.{Contents}
use Rattle.timeline.specs.Times.{Timed}
use Rattle.timeline.specs.declared.line.BinLine.{BinLine}
use Rattle.replay_model.specs.Inputs.{Input}
use Rattle.replay_model.specs.Events.{Timeline}
use Rattle.replay_model.specs.Lines.{lines}
use Rattle.replay_model.specs.Log.{served, timeline, log_part, log}
use Rattle.bin_core.specs.declared.bin.Bin.{Bin}
use Rattle.bin_core.specs.Agendas.{Holds}
use Rattle.bin_core.specs.Words.{time_of, ahead_of}

-- A bin after these inputs, the newest of which is the first, and after these lines of what was
-- served since. What is due later is the same as it would be behind the inputs alone.
pub record StandsFor (c : Contents) (bin : Bin) (xs : List Input) (told : List BinLine)
    : Type 0 where
  pub now : Timeline
  pub holds : (before : List BinLine)
      → Holds c (record { before = before; log = lines now }) bin.agenda before now
  pub told_is : lines now ≡ lines (timeline c xs) ++ told
  pub same : (t : ℕ) → time_of bin ≤ t → served c t now ≡ served c t (timeline c xs)
  pub level : ahead_of bin ≡ false → now ≡ timeline c xs

-- A bin of this script took these inputs, the first of which is the first, and served something of
-- what is due since. Of that it told these lines.
unfoldable pub BinStands : Contents → Bin → List Input → List BinLine → Type 0
BinStands c bin seen told = StandsFor c bin (reverse seen) told

-- a record of a capture with this link type, at its time
abbrev pub timed : ℕ → ℕ → PcapRecord → Timed
timed time link r = record { time = time; captured = record_view link r }

-- something was served: these lines were added
pub record ServesMore (c : Contents) (seen : List Input) (told before after : List BinLine)
    (bin : Bin) : Type 0 where
  pub more : List BinLine
  pub added : after ≡ before ++ more
  pub stands : BinStands c bin seen (told ++ more)

-- an input was taken: of what the log has next, the lines that weren't told yet were added
pub record TakesOn (c : Contents) (seen : List Input) (told : List BinLine) (x : Input)
    (before after : List BinLine) (bin : Bin) : Type 0 where
  pub rest : List BinLine
  pub added : after ≡ before ++ rest
  pub line : log_part c (seen ++ x ∷ []) ≡ log_part c seen ++ told ++ rest
  pub stands : BinStands c bin (seen ++ x ∷ []) []

-- the end came: the lines that complete the log were added
pub record Completes (c : Contents) (seen : List Input) (before after : List BinLine) : Type 0 where
  pub rest : List BinLine
  pub added : after ≡ before ++ rest
  pub line : log c seen ≡ log_part c seen ++ rest

-- ---- what calls do to a bin, whatever it stands for

abbrev pub Serves : Bin → Bin → List BinLine → List BinLine → Type 0
Serves old new before after =
    (c : Contents) (seen : List Input) (told : List BinLine)
    → BinStands c old seen told → ServesMore c seen told before after new

-- All that is due up to a time was told.
abbrev pub HasServed : ℕ → Bin → Type 0
HasServed t bin =
    (c : Contents) (seen : List Input) (told : List BinLine)
    → BinStands c bin seen told
    → lines (served c t (timeline c (reverse seen))) ≡ log_part c seen ++ told

abbrev pub Takes : Input → Bin → Bin → List BinLine → List BinLine → Type 0
Takes x old new before after =
    (c : Contents) (seen : List Input) (told : List BinLine)
    → BinStands c old seen told → TakesOn c seen told x before after new

abbrev pub Ends : Bin → List BinLine → List BinLine → Type 0
Ends old before after =
    (c : Contents) (seen : List Input) (told : List BinLine)
    → BinStands c old seen told → Completes c seen before after
