-- No script begins a pcapng file: its second line would be a carriage return that isn't dropped.
use Rattle.std.proofs.Common.{◌≢◌, ℕ, Bool, true, false, List, ◌∷◌, length, Result, Ok, Err}
use Rattle.std.specs.Prelude.{nat_lt, if◌then◌else◌}
use Rattle.script_lang.specs.declared.fault.ScriptCause.TheVariants as cause
use Rattle.script_lang.specs.declared.fault.ScriptFault.{ScriptFault}
use Rattle.script_lang.specs.declared.fault.ScriptFault.TheVariants.{Bad}
use Rattle.script_lang.specs.Text.{lines_of, words_of}
use Rattle.script_lang.specs.Contents.{Contents}
use Rattle.script_lang.specs.Grammar.{read_script, lines_behind, line_behind, entry_in_line, max_script}

refused : (big : Bool) (r s : Result Contents ScriptFault) (c : Contents) → r ≢ Ok c → s ≢ Ok c
    → (if big then r else s) ≢ Ok c
refused true r s c e f is = e is
refused false r s c e f is = f is

pub no_section : (xs : List ℕ) (c : Contents) → read_script (10 ∷ 13 ∷ 13 ∷ 10 ∷ xs) ≢ Ok c
unfolding read_script lines_of lines_behind line_behind words_of entry_in_line
no_section xs c is =
    refused (nat_lt max_script (length (10 ∷ 13 ∷ 13 ∷ 10 ∷ xs))) (Err (Bad 0 cause.Size))
    (Err (Bad 2 cause.Text)) c (λ e. cc) (λ e. cc) is
