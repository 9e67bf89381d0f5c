-- How a run ends: what the input calls for, and what an answer says.
use Rattle.std.specs.Prelude.{◌≡◌, ◌≢◌, ◌<◌, ◌⊎◌, ℕ, IsTrue, Bool, List, []}
use Rattle.std.specs.Prelude.{Option, Some, None, Result, Ok, Err}
use Rattle.rtp_io.specs.Outside.{Disk, Adds, AddsFront}
use Rattle.pcap_file.specs.Capture.{Record}
use Rattle.capture_file.specs.Capture.{Capture, capture_of}
use Rattle.capture_file.specs.declared.fault.FileFault.{FileFault}
use Rattle.script_lang.specs.declared.fault.ScriptFault.{ScriptFault}
use Rattle.script_lang.specs.declared.fault.ScriptCause.{ScriptCause}
use Rattle.script_lang.specs.Contents.{Contents}
use Rattle.script_lang.specs.Grammar.{read_script}
use Rattle.command_core.specs.declared.status.Status.{Status}
use Rattle.command_core.specs.declared.status.Status.TheVariants as status
use Rattle.command_core.specs.declared.stop.Stop.{Stop}
use Rattle.command_core.specs.declared.stop.Stop.TheVariants as stop
use Rattle.command_core.specs.Stops.{memory_text, usage_text, stop_of_script}
use Rattle.command_core.specs.Stops as common
use Rattle.live_command.specs.declared.stop.LiveStop.{LiveStop}
use Rattle.live_command.specs.declared.stop.LiveStop.TheVariants.{Common, TooMany, MixedLinks}
use Rattle.live_cli.specs.Histories.{IsLiveText}
use Rattle.live_command.specs.Refusals.{capture_stop}
use Rattle.live_command.specs.Stops.{status_of_stop, text_of}
use Rattle.live_cli.specs.Words.{Form}

-- ---- what the words, the script and the capture call for

pub data Wanted : Type 0 where
  Usage : Wanted
  BadScript : ScriptFault → Wanted
  BadCapture : LiveStop → Wanted
  Histories : Bool → Contents → List Record → Wanted

-- of a script that is one, by what there is against the capture
abbrev pub want_from : Bool → Contents → List Record → Option LiveStop → Wanted
want_from hex c records None = Histories hex c records
want_from hex c records (Some why) = BadCapture why

abbrev pub want_by : Bool → Result Contents ScriptFault → Capture → Wanted
want_by hex (Err fault) capture = BadScript fault
want_by hex (Ok c) capture = want_from hex c capture.records (capture_stop capture)

-- of a form, by the contents of the files
abbrev pub wanted_of : (List ℕ → List ℕ) → Form → Wanted
wanted_of contents form =
    want_by form.hex (read_script (contents form.script)) (capture_of (contents form.capture))

abbrev pub wanted : (List ℕ → List ℕ) → Option Form → Wanted
wanted contents None = Usage
wanted contents (Some form) = wanted_of contents form

-- why a run stopped, if it did
abbrev pub stop_of : Wanted → Option LiveStop
stop_of Usage = Some (Common stop.Usage)
stop_of (BadScript fault) = Some (Common (stop_of_script fault))
stop_of (BadCapture why) = Some why
stop_of (Histories hex c records) = None

abbrev pub status_of : Option LiveStop → Status
status_of None = status.Done
status_of (Some why) = status_of_stop why

-- ---- texts

-- Where histories are called for, the bytes are their text.
abbrev pub IsText : Wanted → List ℕ → Type 0
IsText (Histories hex c records) bytes = IsLiveText hex c records bytes
IsText want bytes = ⊥

-- the text that goes with what the input calls for
abbrev pub err_from : Option LiveStop → List ℕ
err_from None = []
err_from (Some why) = text_of why

abbrev pub err_of : Wanted → List ℕ
err_of want = err_from (stop_of want)

-- ---- the parts of the promise

-- the names of the form may be opened
abbrev pub MayOpen : Option Form → Disk → Type 0
MayOpen None disk = Unit {0}
MayOpen (Some form) disk =
    IsTrue (disk.may_open form.script) × IsTrue (disk.may_open form.capture)

-- what is opened is told, or nothing is opened
abbrev pub Knows : Option Form → Disk → Type 0
Knows None disk = Unit {0}
Knows (Some form) disk = IsTrue disk.told

-- A read failed exactly where the count of the files rose, and a write where that of a sink did.
abbrev pub HasStatusCause : Status → ℕ → ℕ → ℕ → ℕ → ℕ → ℕ → Type 0
HasStatusCause status.Read f f' o o' e e' = (f < f') × (o' ≡ o) × (e' ≡ e)
HasStatusCause status.Write f f' o o' e e' = (o < o') ⊎ (e < e')
HasStatusCause status.Memory f f' o o' e e' = Unit {0}
HasStatusCause answer f f' o o' e e' = (f' ≡ f) × (o' ≡ o) × (e' ≡ e)

-- an answer of the statuses that speak of the input is the one that it calls for
abbrev pub IsAnswer : Status → Wanted → Type 0
IsAnswer status.Read want = Unit {0}
IsAnswer status.Write want = Unit {0}
IsAnswer status.Memory want = Unit {0}
IsAnswer answer want = answer ≡ status_of (stop_of want)

-- all of a text that is called for was added
pub record WroteText (want : Wanted) (old new : Option (List ℕ)) : Type 0 where
  pub bytes : List ℕ
  pub is_text : IsText want bytes
  pub written : Adds bytes old new

-- a front of one
pub record WroteFront (want : Wanted) (old new : Option (List ℕ)) : Type 0 where
  pub bytes : List ℕ
  pub is_text : IsText want bytes
  pub written : AddsFront bytes old new

-- nothing, or a front of one
abbrev pub WroteSome : Wanted → Option (List ℕ) → Option (List ℕ) → Type 0
WroteSome want old new = Adds [] old new ⊎ WroteFront want old new

-- what was added to the output
abbrev pub HasOut : Status → Wanted → Option (List ℕ) → Option (List ℕ) → Type 0
HasOut status.Done want old new = WroteText want old new
HasOut status.Write want old new = WroteSome want old new
HasOut status.Memory want old new = WroteSome want old new
HasOut answer want old new = Adds [] old new

-- whatever the files have: nothing is written before the capture was read
abbrev pub IsSilent : Status → Option (List ℕ) → Option (List ℕ) → Type 0
IsSilent status.Done old new = Unit {0}
IsSilent status.Write old new = Unit {0}
IsSilent status.Memory old new = Unit {0}
IsSilent answer old new = Adds [] old new

-- why a run may stop with a text of its own: no form of words, a failed read, or what else the
-- files have; f and f' are the faults of the files before and after
abbrev pub MayStop : Option Form → ℕ → ℕ → LiveStop → Type 0
MayStop form f f' (Common stop.Usage) = (form ≡ None) × (f' ≡ f)
MayStop form f f' (Common stop.Read) = f < f'
MayStop form f f' (Common stop.Memory) = Unit {0}
MayStop form f f' (Common stop.Write) = ⊥
MayStop form f f' why = (form ≢ None) × (f' ≡ f)

-- the same where the input is known: a stop for what it has is the one that it calls for
abbrev pub MustStop : Wanted → ℕ → ℕ → LiveStop → Type 0
MustStop want f f' (Common stop.Read) = f < f'
MustStop want f f' (Common stop.Memory) = Unit {0}
MustStop want f f' (Common stop.Write) = ⊥
MustStop want f f' why = (stop_of want ≡ Some why) × (f' ≡ f)

-- The text of such a stop was being written, and a front of it is there.
pub record CutText (Stops : LiveStop → Type 0) (old new : Option (List ℕ)) : Type 0 where
  pub why : LiveStop
  pub stops : Stops why
  pub front : AddsFront (text_of why) old new

-- What was added to the errors where a write failed: nothing if it was one of the output, whose
-- faults were o before and o' after.
abbrev pub HasCutErr : (LiveStop → Type 0) → ℕ → ℕ → Option (List ℕ) → Option (List ℕ) → Type 0
HasCutErr Stops o o' old new =
    ((o < o') × Adds [] old new) ⊎ ((o' ≡ o) × CutText Stops old new)

-- what was added to the errors, where the input is known
abbrev pub HasErr : Status → Wanted → ℕ → ℕ → ℕ → ℕ
    → Option (List ℕ) → Option (List ℕ) → Type 0
HasErr status.Read want f f' o o' old new = Adds (common.text_of stop.Read) old new
HasErr status.Write want f f' o o' old new = HasCutErr (MustStop want f f') o o' old new
HasErr status.Memory want f f' o o' old new = Adds memory_text old new
HasErr answer want f f' o o' old new = Adds (err_of want) old new

-- The text of a stop with this status was added.
pub record WroteStop (answer : Status) (old new : Option (List ℕ)) : Type 0 where
  pub why : LiveStop
  pub same : status_of_stop why ≡ answer
  pub written : Adds (text_of why) old new

-- and where it is not
abbrev pub HasSomeErr : Status → Option Form → ℕ → ℕ → ℕ → ℕ
    → Option (List ℕ) → Option (List ℕ) → Type 0
HasSomeErr status.Done form f f' o o' old new = Adds [] old new
HasSomeErr status.Write form f f' o o' old new = HasCutErr (MayStop form f f') o o' old new
HasSomeErr answer form f f' o o' old new = WroteStop answer old new

-- words of no form end so, unless the text could not be made or written
abbrev pub IsUsageOr : Status → Type 0
IsUsageOr status.Usage = Unit {0}
IsUsageOr status.Write = Unit {0}
IsUsageOr status.Memory = Unit {0}
IsUsageOr answer = ⊥
