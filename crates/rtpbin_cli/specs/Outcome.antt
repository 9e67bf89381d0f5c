-- How a run ends: what the input calls for, and what an answer says.
use Rattle.std.specs.Prelude.{◌≡◌, ◌≢◌, ◌<◌, ◌⊎◌, ℕ, ◌-◌, IsTrue, List, [], length, take}
use Rattle.std.specs.Prelude.{Option, Some, None, Result, Ok, Err, bytes_eq, if◌then◌else◌}
use Rattle.rtp_io.specs.Outside.{Disk, Adds, AddsFront}
use Rattle.capture_file.specs.declared.fault.FileFault.{FileFault}
use Rattle.capture_file.specs.Capture.{Capture, capture_of, empty}
use Rattle.command_core.specs.declared.status.Status.{Status}
use Rattle.command_core.specs.declared.status.Status.TheVariants as status
use Rattle.command_core.specs.declared.stop.Stop.TheVariants as stop
use Rattle.script_lang.specs.declared.fault.ScriptCause.{ScriptCause}
use Rattle.sdp_profile.specs.declared.fault.SdpCause.{SdpCause}
use Rattle.sdp_command.specs.declared.failure.Failure.{Failure}
use Rattle.sdp_command.specs.declared.failure.Failure.TheVariants.{Stopped, Description}
use Rattle.command_core.specs.Stops.{memory_text, usage_text, text_of}
use Rattle.sdp_command.specs.Failures.{status_of_failure, text_of_failure, description_text}
use Rattle.rtpbin_cli.specs.Words.{Form, Scripted, Described, Dump, Gen, capture_name}
use Rattle.command_core.specs.Output.{Output, output_of}
use Rattle.command_core.specs.Taken.{TakesFew}
use Rattle.rtpbin_cli.specs.Commands.{output_by}

-- ---- what the words, the texts and the capture call for

pub data Wanted : Type 0 where
  Usage : Wanted
  Refused : Failure → Wanted
  Written : Output → Capture → Wanted

-- by the fault of the script or of a description, or what goes out, and the capture
abbrev pub want_from : Result Output Failure → Capture → Wanted
want_from (Err why) capture = Refused why
want_from (Ok output) capture = Written output capture

-- the capture that is read; one without records stands for none
abbrev pub capture_in : (List ℕ → List ℕ) → Form → Capture
capture_in contents (Scripted way capture script) = capture_of (contents capture)
capture_in contents (Described capture sdp times) = capture_of (contents capture)
capture_in contents (Dump capture) = capture_of (contents capture)
capture_in contents (Gen first count) = empty None

-- of a form, by the contents of the files
abbrev pub wanted_of : (List ℕ → List ℕ) → Form → Wanted
wanted_of contents form = want_from (output_by contents form) (capture_in contents form)

abbrev pub wanted : (List ℕ → List ℕ) → Option Form → Wanted
wanted contents None = Usage
wanted contents (Some form) = wanted_of contents form

-- the bytes that go out
abbrev pub out_of : Wanted → List ℕ
out_of Usage = []
out_of (Refused why) = []
out_of (Written output capture) = output_of output capture

-- and by the fault of its capture
abbrev pub stop_from : Option FileFault → Option Failure
stop_from None = None
stop_from (Some fault) = Some (Stopped (stop.Capture fault))

-- why a run stopped, if it did
abbrev pub stop_of : Wanted → Option Failure
stop_of Usage = Some (Stopped stop.Usage)
stop_of (Refused why) = Some why
stop_of (Written output capture) = stop_from capture.fault

abbrev pub status_of : Option Failure → Status
status_of None = status.Done
status_of (Some why) = status_of_failure why

-- ---- texts

-- the text that goes with what the input calls for
abbrev pub err_from : Option Failure → List ℕ
err_from None = []
err_from (Some why) = text_of_failure why

abbrev pub err_of : Wanted → List ℕ
err_of want = err_from (stop_of want)

-- ---- a failed read

-- The bytes that the file of this name gave: its contents without what is left, where it is the
-- open file.
abbrev pub given_from : List ℕ → Disk → Option (List ℕ) → List ℕ
given_from name after None = []
given_from name after (Some opened) =
    if bytes_eq opened name
    then take (length (after.contents name) - length after.left) (after.contents name)
    else []

abbrev pub given_of : List ℕ → Disk → List ℕ
given_of name after = given_from name after after.opened

-- what goes out for the records that lie whole in them, where the texts have no fault
abbrev pub part_from : Result Output Failure → List ℕ → List ℕ
part_from (Err why) given = []
part_from (Ok output) given = output.part (capture_of given).records

abbrev pub read_out : Option Form → Disk → List ℕ
read_out None after = []
read_out (Some form) after =
    part_from (output_by after.contents form) (given_of (capture_name form) after)

-- ---- the parts of the promise

-- the names of the form may be opened
abbrev pub MayOpen : Option Form → Disk → Type 0
MayOpen None disk = Unit {0}
MayOpen (Some (Scripted way capture script)) disk =
    IsTrue (disk.may_open script) × IsTrue (disk.may_open capture)
MayOpen (Some (Described capture sdp times)) disk =
    IsTrue (disk.may_open sdp) × IsTrue (disk.may_open times) × IsTrue (disk.may_open capture)
MayOpen (Some (Dump capture)) disk = IsTrue (disk.may_open capture)
MayOpen (Some (Gen first count)) disk = Unit {0}

-- what is opened is told, or nothing is opened
abbrev pub Knows : Option Form → Disk → Type 0
Knows None disk = Unit {0}
Knows (Some (Gen first count)) disk = Unit {0}
Knows (Some form) disk = IsTrue disk.told

-- A read failed exactly where the count of the files rose, and a write where that of a sink did.
abbrev pub HasStatusCause : Status → ℕ → ℕ → ℕ → ℕ → ℕ → ℕ → Type 0
HasStatusCause status.Done f f' o o' e e' = (f' ≡ f) × (o' ≡ o) × (e' ≡ e)
HasStatusCause status.Script f f' o o' e e' = (f' ≡ f) × (o' ≡ o) × (e' ≡ e)
HasStatusCause status.Usage f f' o o' e e' = (f' ≡ f) × (o' ≡ o) × (e' ≡ e)
HasStatusCause status.Capture f f' o o' e e' = (f' ≡ f) × (o' ≡ o) × (e' ≡ e)
HasStatusCause status.Read f f' o o' e e' = (f < f') × (o' ≡ o) × (e' ≡ e)
HasStatusCause status.Write f f' o o' e e' = (o < o') ⊎ (e < e')
HasStatusCause status.Memory f f' o o' e e' = Unit {0}

-- an answer of the statuses that speak of the input is the one that it calls for
abbrev pub IsAnswer : Status → Wanted → Type 0
IsAnswer status.Read want = Unit {0}
IsAnswer status.Write want = Unit {0}
IsAnswer status.Memory want = Unit {0}
IsAnswer answer want = answer ≡ status_of (stop_of want)

-- a front of the output that the input calls for, or of the one that a failed read leaves
abbrev pub IsFront : Wanted → Option Form → Disk → Option (List ℕ) → Option (List ℕ) → Type 0
IsFront want form after old new =
    AddsFront (out_of want) old new ⊎ AddsFront (read_out form after) old new

-- what was added to the output
abbrev pub HasOut : Status → Wanted → Option Form → Disk
    → Option (List ℕ) → Option (List ℕ) → Type 0
HasOut status.Read want form after old new = Adds (read_out form after) old new
HasOut status.Write want form after old new = IsFront want form after old new
HasOut status.Memory want form after old new = IsFront want form after old new
HasOut answer want form after old new = Adds (out_of want) old new

-- what was taken from the capture, where its lines could not all be written
abbrev pub HasTaken : Wanted → Option Form → Disk → Option (List ℕ) → Option (List ℕ) → Type 0
HasTaken (Written output capture) (Some form) after old new =
    TakesFew output (after.contents (capture_name form)) (given_of (capture_name form) after)
    old new
HasTaken want form after old new = Unit {0}

-- the form reads a description
abbrev pub IsDescribed : Option Form → Type 0
IsDescribed (Some (Described capture sdp times)) = Unit {0}
IsDescribed form = ⊥

-- why a run may stop with a text of its own: no form of words, a failed read, or what else the
-- files have; f and f' are the faults of the files before and after
abbrev pub MayStop : Option Form → ℕ → ℕ → Failure → Type 0
MayStop form f f' (Stopped stop.Usage) = (form ≡ None) × (f' ≡ f)
MayStop form f f' (Stopped (stop.Script line cause)) = (form ≢ None) × (f' ≡ f)
MayStop form f f' (Stopped (stop.Capture fault)) = (form ≢ None) × (f' ≡ f)
MayStop form f f' (Stopped stop.Read) = f < f'
MayStop form f f' (Stopped stop.Memory) = Unit {0}
MayStop form f f' (Stopped stop.Write) = ⊥
MayStop form f f' (Description line cause) = IsDescribed form × (f' ≡ f)

-- the same where the input is known: a stop for what it has is the one that it calls for
abbrev pub MustStop : Wanted → ℕ → ℕ → Failure → Type 0
MustStop want f f' (Stopped stop.Read) = f < f'
MustStop want f f' (Stopped stop.Memory) = Unit {0}
MustStop want f f' (Stopped stop.Write) = ⊥
MustStop want f f' why = (stop_of want ≡ Some why) × (f' ≡ f)

-- The text of such a stop was being written, and a front of it is there.
pub record CutText (Stops : Failure → Type 0) (old new : Option (List ℕ)) : Type 0 where
  pub why : Failure
  pub stops : Stops why
  pub front : AddsFront (text_of_failure why) old new

-- What was added to the errors where a write failed: nothing if it was one of the output, whose
-- faults were o before and o' after.
abbrev pub HasCutErr : (Failure → Type 0) → ℕ → ℕ → Option (List ℕ) → Option (List ℕ) → Type 0
HasCutErr Stops o o' old new =
    ((o < o') × Adds [] old new) ⊎ ((o' ≡ o) × CutText Stops old new)

-- what was added to the errors, where the input is known
abbrev pub HasErr : Status → Wanted → ℕ → ℕ → ℕ → ℕ
    → Option (List ℕ) → Option (List ℕ) → Type 0
HasErr status.Read want f f' o o' old new = Adds (text_of stop.Read) old new
HasErr status.Write want f f' o o' old new = HasCutErr (MustStop want f f') o o' old new
HasErr status.Memory want f f' o o' old new = Adds memory_text old new
HasErr answer want f f' o o' old new = Adds (err_of want) old new

-- the text of a bad line of a script, or of the settings and timed lines beside a description
abbrev pub HasScriptErr : Option (List ℕ) → Option (List ℕ) → Type 0
HasScriptErr old new =
    (line : ℕ) × (cause : ScriptCause) × Adds (text_of (stop.Script line cause)) old new

-- or of one of a description, where one is read
abbrev pub HasLineErr : Option Form → Option (List ℕ) → Option (List ℕ) → Type 0
HasLineErr (Some (Described capture sdp times)) old new =
    HasScriptErr old new
    ⊎ ((line : ℕ) × (cause : SdpCause) × Adds (description_text line cause) old new)
HasLineErr form old new = HasScriptErr old new

-- and where it is not
abbrev pub HasSomeErr : Status → Option Form → ℕ → ℕ → ℕ → ℕ
    → Option (List ℕ) → Option (List ℕ) → Type 0
HasSomeErr status.Done form f f' o o' old new = Adds [] old new
HasSomeErr status.Usage form f f' o o' old new = Adds usage_text old new
HasSomeErr status.Script form f f' o o' old new = HasLineErr form old new
HasSomeErr status.Read form f f' o o' old new = Adds (text_of stop.Read) old new
HasSomeErr status.Capture form f f' o o' old new =
    (fault : FileFault) × Adds (text_of (stop.Capture fault)) old new
HasSomeErr status.Write form f f' o o' old new = HasCutErr (MayStop form f f') o o' old new
HasSomeErr status.Memory form f f' o o' old new = Adds memory_text old new

-- words of no form end so, unless the text could not be made or written
abbrev pub IsUsageOr : Status → Type 0
IsUsageOr status.Usage = Unit {0}
IsUsageOr status.Write = Unit {0}
IsUsageOr status.Memory = Unit {0}
IsUsageOr answer = ⊥
