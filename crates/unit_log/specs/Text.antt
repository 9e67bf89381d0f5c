-- The text of unit lines: fields separated by one space, numbers in decimal, the bytes of a unit in
-- lower-case hexadecimal digits behind its other fields.
use Rattle.std.specs.Prelude.{ℕ, List, [], ◌++◌, codes, Option, Some, None}
use Rattle.std.specs.List.{flat_map}
use Rattle.std.specs.Fmt.{decimal}
use Rattle.hex.specs.Hex.{encode_lower}
use Rattle.depay.specs.declared.outcome.Cause.{Cause}
use Rattle.depay.specs.declared.outcome.Cause.TheVariants as cause
use Rattle.depay.specs.declared.outcome.Format.{Format}
use Rattle.timeline.specs.declared.line.BinLine.{BinLine}
use Rattle.unit_log.specs.declared.line.UnitLine.{UnitLine}
use Rattle.unit_log.specs.declared.line.UnitLine.TheVariants as told
use Rattle.unit_log.specs.Lines.{lines_at, unit_lines}

abbrev pub cause_text : Cause → List ℕ
cause_text cause.Empty = codes "empty"
cause_text cause.Kind = codes "kind"
cause_text cause.Size = codes "size"
cause_text cause.Fragment = codes "fragment"
cause_text cause.Large = codes "large"
cause_text cause.Incomplete = codes "incomplete"

-- a line's words, without a unit's bytes and the newline
abbrev pub unit_words : UnitLine → List ℕ
unit_words (told.Unit time lane first last pts bytes) =
    decimal time ++ codes " unit " ++ decimal lane ++ codes " " ++ decimal first
    ++ codes " " ++ decimal last ++ codes " " ++ decimal pts
unit_words (told.Broken time lane number cause) =
    decimal time ++ codes " broken " ++ decimal lane ++ codes " " ++ decimal number
    ++ codes " " ++ cause_text cause
unit_words (told.Done records units broken) =
    codes "done " ++ decimal records ++ codes " " ++ decimal units
    ++ codes " " ++ decimal broken

-- the bytes of a unit
abbrev pub bytes_of : UnitLine → Option (List ℕ)
bytes_of (told.Unit time lane first last pts bytes) = Some bytes
bytes_of (told.Broken time lane number cause) = None
bytes_of (told.Done records units broken) = None

abbrev pub bytes_text : Option (List ℕ) → List ℕ
bytes_text (Some bytes) = codes " " ++ encode_lower bytes
bytes_text None = []

abbrev pub unit_text : UnitLine → List ℕ
unit_text line = unit_words line ++ bytes_text (bytes_of line) ++ codes "\n"

abbrev pub texts_of : List UnitLine → List ℕ
texts_of lines = flat_map unit_text lines

-- the text that a log line adds after those before it
unfoldable pub text_at : Format → ℕ → List BinLine → BinLine → List ℕ
text_at format pt before line = texts_of (lines_at format pt before line)

-- the text of the unit lines of a log, for a payload format and a payload type
unfoldable pub text_of : Format → ℕ → List BinLine → List ℕ
text_of format pt lines = texts_of (unit_lines format pt lines)
