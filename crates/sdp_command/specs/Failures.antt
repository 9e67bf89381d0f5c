-- Why a run that may read a description stops: for which fault, with which status and text.
use Rattle.std.specs.Prelude.{◌≡◌, ℕ, List, ◌++◌, codes, Result, Ok, Err}
use Rattle.std.specs.Fmt.{decimal}
use Rattle.command_core.specs.declared.status.Status.{Status}
use Rattle.command_core.specs.declared.status.Status.TheVariants as status
use Rattle.command_core.specs.declared.stop.Stop.{Stop}
use Rattle.command_core.specs.declared.stop.Stop.TheVariants as stop
use Rattle.command_core.specs.Stops.{status_of_stop, text_of}
use Rattle.command_core.specs.Steps.{HasStopCause}
use Rattle.sdp_profile.specs.declared.fault.SdpCause.{SdpCause}
use Rattle.sdp_profile.specs.declared.fault.SdpFault.{SdpFault}
use Rattle.sdp_profile.specs.declared.fault.SdpFault.TheVariants as fault
use Rattle.sdp_profile.specs.Causes.{word_of}
use Rattle.sdp_command.specs.declared.failure.Failure.{Failure}
use Rattle.sdp_command.specs.declared.failure.Failure.TheVariants.{Stopped, Description}

-- a run that reads no description, as one that may
abbrev pub as_failure : Result (Unit {0}) Stop → Result (Unit {0}) Failure
as_failure (Ok x) = Ok x
as_failure (Err why) = Err (Stopped why)

-- What a fault of the two texts ends a run with: one of the settings and timed lines as one of a
-- script. No bytes have want of memory.
abbrev pub failure_of_fault : SdpFault → Failure
failure_of_fault (fault.Bad line cause) = Description line cause
failure_of_fault (fault.Times line cause) = Stopped (stop.Script line cause)
failure_of_fault fault.OutOfMemory = Stopped stop.Memory

abbrev pub status_of_failure : Failure → Status
status_of_failure (Stopped why) = status_of_stop why
status_of_failure (Description line cause) = status.Script

abbrev pub description_text : ℕ → SdpCause → List ℕ
description_text line cause =
    codes "rtpbin: sdp line " ++ decimal line ++ codes ": " ++ word_of cause ++ codes "\n"

abbrev pub text_of_failure : Failure → List ℕ
text_of_failure (Stopped why) = text_of why
text_of_failure (Description line cause) = description_text line cause

-- how the counts of the files and of the output moved
abbrev pub HasFailureCause : {A : Type 0} → Result A Failure → ℕ → ℕ → ℕ → ℕ → Type 0
HasFailureCause (Ok x) f f' o o' = (f' ≡ f) × (o' ≡ o)
HasFailureCause {A = A} (Err (Stopped why)) f f' o o' =
    HasStopCause {A = A} (Err why) f f' o o'
HasFailureCause (Err (Description line cause)) f f' o o' = (f' ≡ f) × (o' ≡ o)
