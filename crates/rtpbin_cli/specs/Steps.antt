-- What the steps of a run promise each other.
use Rattle.std.specs.Prelude.{◌≡◌, ◌≢◌, ◌<◌, ◌⊎◌, ℕ, List, []}
use Rattle.std.specs.Prelude.{Option, Some, None, Result, Ok, Err}
use Rattle.rtp_io.specs.Outside.{Disk, Adds, AddsFront}
use Rattle.command_core.specs.declared.status.Status.{Status}
use Rattle.command_core.specs.declared.status.Status.TheVariants as status
use Rattle.command_core.specs.declared.stop.Stop.{Stop}
use Rattle.command_core.specs.declared.stop.Stop.TheVariants as stop
use Rattle.command_core.specs.Stops.{memory_text}
use Rattle.sdp_command.specs.declared.failure.Failure.{Failure}
use Rattle.sdp_command.specs.declared.failure.Failure.TheVariants.{Stopped, Description}
use Rattle.sdp_command.specs.Failures.{status_of_failure, text_of_failure}
use Rattle.rtpbin_cli.specs.Words.{Form}
use Rattle.rtpbin_cli.specs.Outcome.{Wanted, HasTaken, IsDescribed, out_of, read_out}
use Rattle.rtpbin_cli.specs.Outcome.{stop_of}

-- a run that reads no description, up to the text of its end, where the input is known
abbrev pub Runs : Result (Unit {0}) Stop → Wanted → Option Form → Disk
    → Option (List ℕ) → Option (List ℕ) → Type 0
Runs (Err stop.Read) want form after old new = Adds (read_out form after) old new
Runs (Err stop.Write) want form after old new =
    AddsFront (out_of want) old new × HasTaken want form after old new
Runs (Err stop.Memory) want form after old new = AddsFront (out_of want) old new
Runs (Err why) want form after old new =
    (stop_of want ≡ Some (Stopped why)) × Adds (out_of want) old new
Runs (Ok x) want form after old new = (stop_of want ≡ None) × Adds (out_of want) old new

-- any run
abbrev pub RunsAny : Result (Unit {0}) Failure → Wanted → Option Form → Disk
    → Option (List ℕ) → Option (List ℕ) → Type 0
RunsAny (Ok x) want form after old new = Runs (Ok x) want form after old new
RunsAny (Err (Stopped why)) want form after old new = Runs (Err why) want form after old new
RunsAny (Err (Description line cause)) want form after old new =
    (stop_of want ≡ Some (Description line cause)) × Adds (out_of want) old new

-- what is done for words of a form never stops with Usage
abbrev pub IsOfForm : {A : Type 0} → Result A Stop → Type 0
IsOfForm (Err stop.Usage) = ⊥
IsOfForm result = Unit {0}

-- a run stops with Usage exactly where the words have no form, and with a fault of a description
-- only where one is read
abbrev pub IsUsage : Result (Unit {0}) Failure → Option Form → Type 0
IsUsage (Err (Stopped stop.Usage)) form = form ≡ None
IsUsage (Err (Description line cause)) form = IsDescribed form
IsUsage result form = form ≢ None

-- writing a text for a status
abbrev pub Told : Status → Status → List ℕ → Option (List ℕ) → Option (List ℕ) → ℕ → ℕ → Type 0
Told result wish text old new e e' =
    ((result ≡ wish) × Adds text old new × (e' ≡ e))
    ⊎ ((result ≡ status.Write) × AddsFront text old new × (e < e'))

-- reporting why a run stopped
abbrev pub Reports : Status → Failure → Option (List ℕ) → Option (List ℕ) → ℕ → ℕ → Type 0
Reports result (Stopped stop.Write) old new e e' =
    (result ≡ status.Write) × Adds [] old new × (e' ≡ e)
Reports result why old new e e' =
    Told result (status_of_failure why) (text_of_failure why) old new e e'
    ⊎ Told result status.Memory memory_text old new e e'
