-- Texts of settings and timed lines alone, for sessions that stand elsewhere.
use Rattle.std.specs.Prelude.{ℕ, ◌+◌, List, [], ◌∷◌, length, map, Bool, true, false, not, ◌||◌}
use Rattle.std.specs.Prelude.{nat_lt, Option, Some, None, Result, Ok, Err, if◌then◌else◌}
use Rattle.script_lang.specs.declared.fault.ScriptCause.{ScriptCause}
use Rattle.script_lang.specs.declared.fault.ScriptCause.TheVariants as cause
use Rattle.script_lang.specs.declared.fault.ScriptFault.{ScriptFault}
use Rattle.script_lang.specs.declared.fault.ScriptFault.TheVariants.{Bad}
use Rattle.script_lang.specs.declared.script.SessionLine.{SessionLine}
use Rattle.script_lang.specs.declared.entry.Entry.{Entry}
use Rattle.script_lang.specs.declared.entry.Entry.TheVariants as entry
use Rattle.script_lang.specs.Causes.{◌>>=◌}
use Rattle.script_lang.specs.Text.{lines_of, words_of, is_passed_over, is_text}
use Rattle.script_lang.specs.Forms.{WrittenLine, Setting, At, form_of}
use Rattle.script_lang.specs.Facts.{Placed, Facts, facts_of}
use Rattle.script_lang.specs.Contents.{Contents}
use Rattle.script_lang.specs.Grammar.{line_behind, go_on, closed, max_script}

-- the form of a setting or of a timed line
abbrev pub is_of_times : Option WrittenLine → Bool
is_of_times (Some (Setting name value)) = true
is_of_times (Some (At time action)) = true
is_of_times form = false

-- a line that is passed over or is no text, and one of these forms
abbrev pub has_place : List ℕ → Bool
has_place line =
    is_passed_over (words_of line) || not (is_text line) || is_of_times (form_of (words_of line))

-- what a line says behind earlier lines, as in a script; any other form is unknown here
unfoldable pub times_line_behind : Facts → List ℕ → Result (Option Entry) ScriptCause
times_line_behind facts line = if has_place line then line_behind facts line else Err cause.Word

-- what all lines say, or the first bad line, where the first of these has this number
unfoldable pub times_behind : ℕ → List Placed → List (List ℕ) → Result (List Placed) ScriptFault
times_behind n earlier [] = Ok earlier
times_behind n earlier (line ∷ lines) =
    go_on (λ placed. times_behind (n + 1) placed lines) n earlier
    (times_line_behind (facts_of earlier) line)

-- the sessions, as lines that were read before the first
abbrev pub declared_before : List SessionLine → List Placed
declared_before sessions = map (λ l. record { line = 0; entry = entry.Session l }) sessions

-- what holds where only these sessions were declared
abbrev pub facts_before : List SessionLine → Facts
facts_before sessions = record {
  sessions = sessions;
  pts = [];
  rtx = [];
  fids = [];
  settings = [];
  items = [];
  flushes = None ∷ None ∷ None ∷ None ∷ None ∷ None ∷ None ∷ None ∷ [];
}

-- the script of these sessions and what the text says
unfoldable pub script_of_times : List SessionLine → List ℕ → Result Contents ScriptFault
script_of_times sessions bytes =
    if nat_lt max_script (length bytes) then Err (Bad 0 cause.Size)
    else (times_behind 1 (declared_before sessions) (lines_of bytes)
    >>= λ placed. closed (facts_of placed))
