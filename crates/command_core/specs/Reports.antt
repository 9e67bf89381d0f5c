-- The text that a run ends with.
use Rattle.std.specs.Prelude.{◌≡◌, ◌<◌, ◌⊎◌, ℕ, List, [], Option}
use Rattle.rtp_io.specs.Outside.{Adds, AddsFront}
use Rattle.command_core.specs.declared.status.Status.{Status}
use Rattle.command_core.specs.declared.status.Status.TheVariants as status
use Rattle.command_core.specs.Stops.{memory_text}

-- writing a text for a status
abbrev pub Told : Status → Status → List ℕ → Option (List ℕ) → Option (List ℕ) → ℕ → ℕ → Type 0
Told result wish text old new e e' =
    ((result ≡ wish) × Adds text old new × (e' ≡ e))
    ⊎ ((result ≡ status.Write) × AddsFront text old new × (e < e'))

-- reporting why a run ends with this status: nothing is said of a line that could not be written
abbrev pub Reports : Status → Status → List ℕ
    → Option (List ℕ) → Option (List ℕ) → ℕ → ℕ → Type 0
Reports result status.Write text old new e e' =
    (result ≡ status.Write) × Adds [] old new × (e' ≡ e)
Reports result wish text old new e e' =
    Told result wish text old new e e' ⊎ Told result status.Memory memory_text old new e e'
