-- The words of a command line.
use Rattle.std.specs.Prelude.{ℕ, List, [], ◌∷◌, map, codes, Option, Some, None, Bool, true, false}
use Rattle.std.specs.Prelude.{bytes_eq, if◌then◌else◌, string_bytes, String}
use Rattle.std.specs.declared.alloc.Global.{Global}
use Rattle.rtpscan_cli.specs.declared.words.Asked.{Asked}

-- what is asked for: the capture, and whether the script alone is wanted
pub record Form : Type 0 where
  pub script_only : Bool
  pub capture : List ℕ

abbrev pub texts : List (String Global) → List (List ℕ)
texts words = map (λ w. string_bytes w) words

abbrev pub form_of : List (List ℕ) → Option Form
form_of (capture ∷ []) = Some (record { script_only = false; capture = capture })
form_of (option ∷ capture ∷ []) =
    if bytes_eq option (codes "-s") then Some (record { script_only = true; capture = capture })
    else None
form_of words = None

-- a form as the program holds it
abbrev pub form_view : Asked → Form
form_view asked = record { script_only = asked.script_only; capture = asked.capture.now }
