-- What the steps of a run promise each other.
use Rattle.std.specs.Prelude.{◌≡◌, ◌≢◌, ◌<◌, ◌⊎◌, ℕ, List, []}
use Rattle.std.specs.Prelude.{Option, Some, None, Result, Ok, Err}
use Rattle.rtp_io.specs.Outside.{Adds, AddsFront}
use Rattle.command_core.specs.declared.status.Status.{Status}
use Rattle.command_core.specs.declared.status.Status.TheVariants as status
use Rattle.command_core.specs.declared.stop.Stop.TheVariants as stop
use Rattle.command_core.specs.Stops.{memory_text}
use Rattle.live_command.specs.declared.stop.LiveStop.{LiveStop}
use Rattle.live_command.specs.declared.stop.LiveStop.TheVariants.{Common, TooMany, MixedLinks}
use Rattle.live_command.specs.Stops.{status_of_stop, text_of}
use Rattle.live_cli.specs.Words.{Form}
use Rattle.live_cli.specs.Outcome.{Wanted, WroteText, WroteSome, stop_of}

-- a run up to the text of its end, where the input is known
abbrev pub Runs : Result (Unit {0}) LiveStop → Wanted
    → Option (List ℕ) → Option (List ℕ) → Type 0
Runs (Ok x) want old new = (stop_of want ≡ None) × WroteText want old new
Runs (Err (Common stop.Read)) want old new = Adds [] old new
Runs (Err (Common stop.Write)) want old new = WroteSome want old new
Runs (Err (Common stop.Memory)) want old new = WroteSome want old new
Runs (Err why) want old new = (stop_of want ≡ Some why) × Adds [] old new

-- and where it is not
abbrev pub RunsSilently : Result (Unit {0}) LiveStop
    → Option (List ℕ) → Option (List ℕ) → Type 0
RunsSilently (Ok x) old new = Unit {0}
RunsSilently (Err (Common stop.Write)) old new = Unit {0}
RunsSilently (Err (Common stop.Memory)) old new = Unit {0}
RunsSilently (Err why) old new = Adds [] old new

-- what is done for words of a form never stops with Usage
abbrev pub IsOfForm : Result (Unit {0}) LiveStop → Type 0
IsOfForm (Err (Common stop.Usage)) = ⊥
IsOfForm result = Unit {0}

-- a run stops with Usage exactly where the words have no form
abbrev pub IsUsage : Result (Unit {0}) LiveStop → Option Form → Type 0
IsUsage (Err (Common stop.Usage)) form = form ≡ None
IsUsage result form = form ≢ None

-- writing a text for a status
abbrev pub Told : Status → Status → List ℕ → Option (List ℕ) → Option (List ℕ) → ℕ → ℕ → Type 0
Told result wish text old new e e' =
    ((result ≡ wish) × Adds text old new × (e' ≡ e))
    ⊎ ((result ≡ status.Write) × AddsFront text old new × (e < e'))

-- reporting why a run stopped
abbrev pub Reports : Status → LiveStop → Option (List ℕ) → Option (List ℕ) → ℕ → ℕ → Type 0
Reports result (Common stop.Write) old new e e' =
    (result ≡ status.Write) × Adds [] old new × (e' ≡ e)
Reports result why old new e e' =
    Told result (status_of_stop why) (text_of why) old new e e'
    ⊎ Told result status.Memory memory_text old new e e'
