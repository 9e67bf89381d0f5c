-- What is written for the lines of a log.
use Rattle.std.specs.Prelude.{ℕ, List, ◌∷◌, ◌++◌, [], Option, Result, Ok, Err}
use Rattle.std.specs.List.{flat_map}
use Rattle.rtp_io.specs.Outside.{Adds, AddsFront}
use Rattle.timeline.specs.declared.line.BinLine.{BinLine}
use Rattle.log_text.specs.Text.{line_text}
use Rattle.unit_log.specs.declared.log.UnitLog.{UnitLog}
use Rattle.unit_log.specs.Standing.{TookLines}
use Rattle.unit_log.specs.Text.{text_at, text_of}
use Rattle.command_core.specs.declared.stop.Stop.{Stop}
use Rattle.replay_command.specs.declared.rendering.Style.{Style}
use Rattle.replay_command.specs.declared.rendering.Style.TheVariants as style
use Rattle.replay_command.specs.declared.rendering.Rendering.{Rendering}
use Rattle.replay_command.specs.declared.rendering.Rendering.TheVariants as rendering

-- the text of log lines: each of them as it is, with the bytes of the packets that leave or
-- without; or their media units, of a payload format and a payload type
abbrev pub text_by : Style → List BinLine → List ℕ
text_by (style.Log hex) lines = flat_map (line_text hex) lines
text_by (style.Units format pt) lines = text_of format pt lines

abbrev pub style_of : Rendering → Style
style_of (rendering.Log hex text) = style.Log hex
style_of (rendering.Units log) = style.Units log.format log.pt

-- the lines that it was given
abbrev pub WasGiven : Rendering → List BinLine → Type 0
WasGiven (rendering.Log hex text) lines = Unit {0}
WasGiven (rendering.Units log) lines = TookLines log log.format log.pt lines

-- It was given these lines since the output had these bytes, and all that goes out for them was
-- written.
pub record Wrote (r : Rendering) (lines : List BinLine) (start now : Option (List ℕ))
    : Type 0 where
  pub given : WasGiven r lines
  pub written : Adds (text_by (style_of r) lines) start now

-- It was given these lines behind others, and what goes out for them was written from one content
-- of the output to the other, or a front of it.
abbrev pub Renders : Result (Unit {0}) Stop → Rendering → Rendering → List BinLine
    → Option (List ℕ) → Option (List ℕ) → Type 0
Renders (Ok x) r s lines old new =
    (before : List BinLine) (start : Option (List ℕ))
    → Wrote r before start old → Wrote s (before ++ lines) start new
Renders (Err why) r s lines old new =
    (before : List BinLine) (start : Option (List ℕ))
    → Wrote r before start old
    → AddsFront (text_by (style_of r) (before ++ lines)) start new

-- the same of one line and the text that it adds to the media units
abbrev pub RendersUnits : Result (Unit {0}) Stop → UnitLog → UnitLog → BinLine
    → Option (List ℕ) → Option (List ℕ) → Type 0
RendersUnits (Ok x) p q line old new =
    (before : List BinLine)
    → TookLines p p.format p.pt before
    → TookLines q p.format p.pt (before ++ line ∷ [])
    × Adds (text_at p.format p.pt before line) old new
RendersUnits (Err why) p q line old new =
    (before : List BinLine)
    → TookLines p p.format p.pt before
    → AddsFront (text_at p.format p.pt before line) old new
