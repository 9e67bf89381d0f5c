-- Why a run of `live` stops: with which status and text.
use Rattle.std.specs.Prelude.{◌≡◌, ◌<◌, ℕ, List, ◌++◌, codes, Result, Ok, Err}
use Rattle.std.specs.Fmt.{decimal}
use Rattle.command_core.specs.declared.status.Status.{Status}
use Rattle.command_core.specs.declared.status.Status.TheVariants as status
use Rattle.command_core.specs.Steps.{HasStopCause}
use Rattle.command_core.specs.Stops as common
use Rattle.live_command.specs.declared.stop.LiveStop.{LiveStop}
use Rattle.live_command.specs.declared.stop.LiveStop.TheVariants.{Common, TooMany, MixedLinks}

abbrev pub status_of_stop : LiveStop → Status
status_of_stop (Common why) = common.status_of_stop why
status_of_stop (TooMany offset) = status.Capture
status_of_stop (MixedLinks offset) = status.Capture

abbrev pub text_of : LiveStop → List ℕ
text_of (Common why) = common.text_of why
text_of (TooMany offset) = codes "rtpbin: capture at " ++ decimal offset ++ codes ": too-many\n"
text_of (MixedLinks offset) =
    codes "rtpbin: capture at " ++ decimal offset ++ codes ": mixed-links\n"

-- how the counts of the files and of the output moved
abbrev pub HasLiveCause : {A : Type 0} → Result A LiveStop → ℕ → ℕ → ℕ → ℕ → Type 0
HasLiveCause (Ok x) f f' o o' = (f' ≡ f) × (o' ≡ o)
HasLiveCause (Err (Common why)) f f' o o' = HasStopCause {A = Unit {0}} (Err why) f f' o o'
HasLiveCause (Err (TooMany offset)) f f' o o' = (f' ≡ f) × (o' ≡ o)
HasLiveCause (Err (MixedLinks offset)) f f' o o' = (f' ≡ f) × (o' ≡ o)
