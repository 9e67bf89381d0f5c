-- What the steps of a run promise each other.
use Rattle.std.specs.Prelude.{◌≡◌, ◌≢◌, ℕ, List, []}
use Rattle.std.specs.Prelude.{Option, Some, None, Result, Ok, Err}
use Rattle.rtp_io.specs.Outside.{Adds, AddsFront}
use Rattle.command_core.specs.declared.status.Status.{Status}
use Rattle.command_core.specs.declared.stop.Stop.{Stop}
use Rattle.command_core.specs.declared.stop.Stop.TheVariants as stop
use Rattle.command_core.specs.Stops.{status_of_stop}
use Rattle.command_core.specs.Reports.{Reports}
use Rattle.rtpscan_cli.specs.Words.{Form}
use Rattle.rtpscan_cli.specs.Outcome.{Wanted, out_of, stop_of, told_text}

-- a run up to the text of its end, where the input is known
abbrev pub Runs : Result (Unit {0}) Stop → Wanted
    → Option (List ℕ) → Option (List ℕ) → Type 0
Runs (Err stop.Read) want old new = Adds [] old new
Runs (Err stop.Write) want old new = AddsFront (out_of want) old new
Runs (Err stop.Memory) want old new = AddsFront (out_of want) old new
Runs (Err why) want old new = (stop_of want ≡ Some why) × Adds (out_of want) old new
Runs (Ok x) want old new = (stop_of want ≡ None) × Adds (out_of want) old new

-- a run stops with Usage exactly where the words have no form
abbrev pub IsUsage : Result (Unit {0}) Stop → Option Form → Type 0
IsUsage (Err stop.Usage) form = form ≡ None
IsUsage result form = form ≢ None

-- reporting why a run stopped
abbrev pub ReportsStop : Status → Stop → Option (List ℕ) → Option (List ℕ) → ℕ → ℕ → Type 0
ReportsStop result why old new e e' =
    Reports result (status_of_stop why) (told_text why) old new e e'
