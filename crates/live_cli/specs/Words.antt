-- The words of a command line that begins with `live`.
use Rattle.std.specs.Prelude.{ℕ, List, [], ◌∷◌, map, codes, Option, Some, None}
use Rattle.std.specs.Prelude.{Bool, true, false}
use Rattle.std.specs.Prelude.{bytes_eq, ◌&&◌, not, if◌then◌else◌, string_bytes, String}
use Rattle.std.specs.declared.alloc.Global.{Global}
use Rattle.live_cli.specs.declared.words.Asked.{Asked}

-- what is asked for: whether the bytes of packets are shown, and the names of the capture and of
-- the script
pub record Form : Type 0 where
  pub hex : Bool
  pub capture : List ℕ
  pub script : List ℕ

abbrev pub texts : List (String Global) → List (List ℕ)
texts words = map (λ w. string_bytes w) words

-- both names are standard input
abbrev pub are_both_input : List ℕ → List ℕ → Bool
are_both_input capture script = bytes_eq capture (codes "-") && bytes_eq script (codes "-")

-- the command is `live`
abbrev pub live_of : List ℕ → Bool → List ℕ → List ℕ → Option Form
live_of command hex capture script =
    if bytes_eq command (codes "live") && not (are_both_input capture script)
    then Some (record { hex = hex; capture = capture; script = script })
    else None

abbrev pub form_of : List (List ℕ) → Option Form
form_of (command ∷ capture ∷ script ∷ []) = live_of command false capture script
form_of (command ∷ option ∷ capture ∷ script ∷ []) =
    if bytes_eq option (codes "-x") then live_of command true capture script else None
form_of words = None

-- a form as the program holds it
abbrev pub form_view : Asked → Form
form_view asked = record {
  hex = asked.hex;
  capture = asked.capture.now;
  script = asked.script.now;
}
