-- How a run ends: what the input calls for, and what an answer says.
use Rattle.std.specs.Prelude.{◌≡◌, ◌≢◌, ◌<◌, ◌⊎◌, ℕ, IsTrue, List, [], codes}
use Rattle.std.specs.Prelude.{Option, Some, None}
use Rattle.rtp_io.specs.Outside.{Disk, Adds, AddsFront}
use Rattle.capture_file.specs.declared.fault.FileFault.{FileFault}
use Rattle.capture_file.specs.Capture.{Capture, capture_of}
use Rattle.script_lang.specs.declared.fault.ScriptCause.{ScriptCause}
use Rattle.command_core.specs.declared.status.Status.{Status}
use Rattle.command_core.specs.declared.status.Status.TheVariants as status
use Rattle.command_core.specs.declared.stop.Stop.{Stop}
use Rattle.command_core.specs.declared.stop.Stop.TheVariants as stop
use Rattle.command_core.specs.Stops.{memory_text, text_of, status_of_stop}
use Rattle.command_core.specs.Output.{Output, output_of}
use Rattle.rtpscan_cli.specs.Words.{Form}
use Rattle.rtpscan_cli.specs.Scanned.{scan_output}

-- ---- what the words and the capture call for

pub data Wanted : Type 0 where
  Usage : Wanted
  Written : Output → Capture → Wanted

-- by the contents of the files
abbrev pub wanted : (List ℕ → List ℕ) → Option Form → Wanted
wanted contents None = Usage
wanted contents (Some form) =
    Written (scan_output form.script_only) (capture_of (contents form.capture))

-- the bytes that go out
abbrev pub out_of : Wanted → List ℕ
out_of Usage = []
out_of (Written output capture) = output_of output capture

abbrev pub stop_from : Option FileFault → Option Stop
stop_from None = None
stop_from (Some fault) = Some (stop.Capture fault)

-- why a run stopped, if it did
abbrev pub stop_of : Wanted → Option Stop
stop_of Usage = Some stop.Usage
stop_of (Written output capture) = stop_from capture.fault

abbrev pub status_of : Option Stop → Status
status_of None = status.Done
status_of (Some why) = status_of_stop why

-- ---- texts

abbrev pub usage_text : List ℕ
usage_text = codes "rtpscan: usage: [-s] CAPTURE\n"

-- but for the usage text they are those of the commands of `rtpbin`
abbrev pub told_text : Stop → List ℕ
told_text stop.Usage = usage_text
told_text why = text_of why

abbrev pub err_from : Option Stop → List ℕ
err_from None = []
err_from (Some why) = told_text why

-- the text that goes with what the input calls for
abbrev pub err_of : Wanted → List ℕ
err_of want = err_from (stop_of want)

-- ---- the parts of the promise

-- the capture may be opened
abbrev pub MayOpen : Option Form → Disk → Type 0
MayOpen None disk = Unit {0}
MayOpen (Some form) disk = IsTrue (disk.may_open form.capture)

-- what is opened is told, or nothing is opened
abbrev pub Knows : Option Form → Disk → Type 0
Knows None disk = Unit {0}
Knows (Some form) disk = IsTrue disk.told

-- A read failed exactly where the count of the files rose, and a write where that of a sink did.
abbrev pub HasStatusCause : Status → ℕ → ℕ → ℕ → ℕ → ℕ → ℕ → Type 0
HasStatusCause status.Done f f' o o' e e' = (f' ≡ f) × (o' ≡ o) × (e' ≡ e)
HasStatusCause status.Script f f' o o' e e' = (f' ≡ f) × (o' ≡ o) × (e' ≡ e)
HasStatusCause status.Usage f f' o o' e e' = (f' ≡ f) × (o' ≡ o) × (e' ≡ e)
HasStatusCause status.Capture f f' o o' e e' = (f' ≡ f) × (o' ≡ o) × (e' ≡ e)
HasStatusCause status.Read f f' o o' e e' = (f < f') × (o' ≡ o) × (e' ≡ e)
HasStatusCause status.Write f f' o o' e e' = (o < o') ⊎ (e < e')
HasStatusCause status.Memory f f' o o' e e' = Unit {0}

-- an answer of the statuses that speak of the input is the one that it calls for
abbrev pub IsAnswer : Status → Wanted → Type 0
IsAnswer status.Read want = Unit {0}
IsAnswer status.Write want = Unit {0}
IsAnswer status.Memory want = Unit {0}
IsAnswer answer want = answer ≡ status_of (stop_of want)

-- what was added to the output
abbrev pub HasOut : Status → Wanted → Option (List ℕ) → Option (List ℕ) → Type 0
HasOut status.Read want old new = Adds [] old new
HasOut status.Write want old new = AddsFront (out_of want) old new
HasOut status.Memory want old new = AddsFront (out_of want) old new
HasOut answer want old new = Adds (out_of want) old new

-- why a run may stop with a text of its own: no form of words, a failed read, or what else the
-- files have; f and f' are the faults of the files before and after
abbrev pub MayStop : Option Form → ℕ → ℕ → Stop → Type 0
MayStop form f f' stop.Usage = (form ≡ None) × (f' ≡ f)
MayStop form f f' (stop.Script line cause) = (form ≢ None) × (f' ≡ f)
MayStop form f f' (stop.Capture fault) = (form ≢ None) × (f' ≡ f)
MayStop form f f' stop.Read = f < f'
MayStop form f f' stop.Memory = Unit {0}
MayStop form f f' stop.Write = ⊥

-- the same where the input is known: a stop for what it has is the one that it calls for
abbrev pub MustStop : Wanted → ℕ → ℕ → Stop → Type 0
MustStop want f f' stop.Read = f < f'
MustStop want f f' stop.Memory = Unit {0}
MustStop want f f' stop.Write = ⊥
MustStop want f f' why = (stop_of want ≡ Some why) × (f' ≡ f)

-- The text of such a stop was being written, and a front of it is there.
pub record CutText (Stops : Stop → Type 0) (old new : Option (List ℕ)) : Type 0 where
  pub why : Stop
  pub stops : Stops why
  pub front : AddsFront (told_text why) old new

-- What was added to the errors where a write failed: nothing if it was one of the output, whose
-- faults were o before and o' after.
abbrev pub HasCutErr : (Stop → Type 0) → ℕ → ℕ → Option (List ℕ) → Option (List ℕ) → Type 0
HasCutErr Stops o o' old new =
    ((o < o') × Adds [] old new) ⊎ ((o' ≡ o) × CutText Stops old new)

-- what was added to the errors, where the input is known
abbrev pub HasErr : Status → Wanted → ℕ → ℕ → ℕ → ℕ
    → Option (List ℕ) → Option (List ℕ) → Type 0
HasErr status.Read want f f' o o' old new = Adds (told_text stop.Read) old new
HasErr status.Write want f f' o o' old new = HasCutErr (MustStop want f f') o o' old new
HasErr status.Memory want f f' o o' old new = Adds memory_text old new
HasErr answer want f f' o o' old new = Adds (err_of want) old new

-- and where it is not
abbrev pub HasSomeErr : Status → Option Form → ℕ → ℕ → ℕ → ℕ
    → Option (List ℕ) → Option (List ℕ) → Type 0
HasSomeErr status.Done form f f' o o' old new = Adds [] old new
HasSomeErr status.Usage form f f' o o' old new = Adds usage_text old new
HasSomeErr status.Script form f f' o o' old new =
    (line : ℕ) × (cause : ScriptCause) × Adds (told_text (stop.Script line cause)) old new
HasSomeErr status.Read form f f' o o' old new = Adds (told_text stop.Read) old new
HasSomeErr status.Capture form f f' o o' old new =
    (fault : FileFault) × Adds (told_text (stop.Capture fault)) old new
HasSomeErr status.Write form f f' o o' old new = HasCutErr (MayStop form f f') o o' old new
HasSomeErr status.Memory form f f' o o' old new = Adds memory_text old new

-- words of no form end so, unless the text could not be made or written
abbrev pub IsUsageOr : Status → Type 0
IsUsageOr status.Usage = Unit {0}
IsUsageOr status.Write = Unit {0}
IsUsageOr status.Memory = Unit {0}
IsUsageOr answer = ⊥
