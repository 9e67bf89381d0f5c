-- Why a run stops: for which fault, with which status and text.
use Rattle.std.specs.Prelude.{ℕ, List, [], ◌++◌, codes}
use Rattle.std.specs.Fmt.{decimal}
use Rattle.capture_file.specs.declared.fault.FileFault.{FileFault}
use Rattle.capture_file.specs.declared.fault.FileFault.TheVariants as faults
use Rattle.capture_file.specs.Faults.{offset_of, word_of}
use Rattle.script_lang.specs.declared.fault.ScriptFault.{ScriptFault}
use Rattle.script_lang.specs.declared.fault.ScriptFault.TheVariants as refusal
use Rattle.script_lang.specs.declared.fault.ScriptCause.{ScriptCause}
use Rattle.script_lang.specs.Causes.{word_of as word_for}
use Rattle.command_core.specs.declared.status.Status.{Status}
use Rattle.command_core.specs.declared.status.Status.TheVariants as status
use Rattle.command_core.specs.declared.stop.Stop.{Stop}
use Rattle.command_core.specs.declared.stop.Stop.TheVariants as stop

-- what a fault of the script ends a run with; no bytes have want of memory
abbrev pub stop_of_script : ScriptFault → Stop
stop_of_script (refusal.Bad line cause) = stop.Script line cause
stop_of_script refusal.OutOfMemory = stop.Memory

-- what a fault of the capture ends a run with
abbrev pub stop_of_fault : FileFault → Stop
stop_of_fault faults.ReadFault = stop.Read
stop_of_fault faults.OutOfMemory = stop.Memory
stop_of_fault fault = stop.Capture fault

abbrev pub status_of_stop : Stop → Status
status_of_stop stop.Usage = status.Usage
status_of_stop (stop.Script line cause) = status.Script
status_of_stop stop.Read = status.Read
status_of_stop (stop.Capture fault) = status.Capture
status_of_stop stop.Write = status.Write
status_of_stop stop.Memory = status.Memory

-- ---- texts

abbrev pub script_text : ℕ → ScriptCause → List ℕ
script_text line cause = decimal line ++ codes ": " ++ word_for cause

abbrev pub capture_text : FileFault → List ℕ
capture_text fault = decimal (offset_of fault) ++ codes ": " ++ word_of fault

abbrev pub memory_text : List ℕ
memory_text = codes "rtpbin: out of memory\n"

abbrev pub usage_text : List ℕ
usage_text =
    codes "rtpbin: usage: replay [-x] CAPTURE SCRIPT | dump CAPTURE | "
    ++ codes "rtxsend CAPTURE SCRIPT | gen NUMBER COUNT | live [-x] CAPTURE SCRIPT | "
    ++ codes "sdp CAPTURE SDP TIMES | depay FORMAT PT CAPTURE SCRIPT\n"

abbrev pub text_of : Stop → List ℕ
text_of stop.Usage = usage_text
text_of (stop.Script line cause) =
    codes "rtpbin: script line " ++ script_text line cause ++ codes "\n"
text_of stop.Read = codes "rtpbin: read failed\n"
text_of (stop.Capture fault) = codes "rtpbin: capture at " ++ capture_text fault ++ codes "\n"
text_of stop.Write = []
text_of stop.Memory = memory_text
