-- The grammar of scripts: the script that bytes are, or the first bad line and the first cause that fits.
use Rattle.std.specs.Prelude.{ℕ, ◌+◌, List, [], ◌∷◌, ◌++◌, length, max, Option, Some, None, Result, Ok, Err, not, ◌&&◌, nat_lt, if◌then◌else◌}
use Rattle.std.specs.List.{filter_map, reduce}
use Rattle.script_lang.specs.declared.fault.ScriptCause.{ScriptCause}
use Rattle.script_lang.specs.declared.fault.ScriptCause.TheVariants as cause
use Rattle.script_lang.specs.declared.fault.ScriptFault.{ScriptFault}
use Rattle.script_lang.specs.declared.fault.ScriptFault.TheVariants.{Bad}
use Rattle.script_lang.specs.declared.entry.Entry.{Entry}
use Rattle.script_lang.specs.Causes.{◌>>=◌}
use Rattle.script_lang.specs.Text.{lines_of, words_of, is_passed_over, is_text}
use Rattle.script_lang.specs.Forms.{WrittenLine, form_of, is_timed}
use Rattle.script_lang.specs.Entries.{entry_of}
use Rattle.script_lang.specs.Facts.{Placed, Facts, facts_of}
use Rattle.script_lang.specs.Tests.{cause_of}
use Rattle.script_lang.specs.Contents.{Contents, contents_of}

-- ---- one line behind earlier ones

abbrev pub unless : {A : Type 0} → Option ScriptCause → A → Result A ScriptCause
unless None value = Ok value
unless (Some cause) value = Err cause

-- a form that has a place here, its arguments, and the tests against the earlier lines
unfoldable pub entry_of_form : Facts → Option WrittenLine → Result Entry ScriptCause
entry_of_form facts None = Err cause.Word
entry_of_form facts (Some line) =
    if not (is_timed line) && nat_lt 0 (length facts.items) then Err cause.Order
    else (entry_of line >>= λ entry. unless (cause_of facts entry) entry)

-- what a line of these words says behind lines of which these facts hold
unfoldable pub entry_in_line : Facts → List ℕ → List (List ℕ) → Result Entry ScriptCause
entry_in_line facts line words = if is_text line then entry_of_form facts (form_of words) else Err cause.Text

-- the same, and nothing where the line is passed over
unfoldable pub line_behind : Facts → List ℕ → Result (Option Entry) ScriptCause
line_behind facts line =
    if is_passed_over (words_of line) then Ok None
    else (entry_in_line facts line (words_of line) >>= λ entry. Ok (Some entry))

-- ---- all lines, by their numbers

abbrev pub with_line : ℕ → List Placed → Option Entry → List Placed
with_line n earlier None = earlier
with_line n earlier (Some entry) = earlier ++ record { line = n; entry = entry } ∷ []

abbrev pub go_on : (List Placed → Result (List Placed) ScriptFault) → ℕ → List Placed → Result (Option Entry) ScriptCause → Result (List Placed) ScriptFault
go_on behind n earlier (Ok entry) = behind (with_line n earlier entry)
go_on behind n earlier (Err cause) = Err (Bad n cause)

-- what all lines say, or the first bad line, where the first of these has this number
unfoldable pub lines_behind : ℕ → List Placed → List (List ℕ) → Result (List Placed) ScriptFault
lines_behind n earlier [] = Ok earlier
lines_behind n earlier (line ∷ lines) = go_on (λ placed. lines_behind (n + 1) placed lines) n earlier (line_behind (facts_of earlier) line)

-- ---- the whole script

-- the script, unless a flush is left open at the end, which began in this line
abbrev pub unless_open : Option ℕ → Contents → Result Contents ScriptFault
unless_open None contents = Ok contents
unless_open (Some line) contents = Err (Bad line cause.Flush)

-- the last of the lines whose flush is not closed
abbrev pub last_open : List (Option ℕ) → Option ℕ
last_open flushes = reduce max (filter_map (λ line. line) flushes)

unfoldable pub closed : Facts → Result Contents ScriptFault
closed facts = unless_open (last_open facts.flushes) (contents_of facts)

-- the most bytes of a script
abbrev pub max_script : ℕ
max_script = 1048576

unfoldable pub read_script : List ℕ → Result Contents ScriptFault
read_script bytes =
    if nat_lt max_script (length bytes) then Err (Bad 0 cause.Size)
    else (lines_behind 1 [] (lines_of bytes) >>= λ placed. closed (facts_of placed))
