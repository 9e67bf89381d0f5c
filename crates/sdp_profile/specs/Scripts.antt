-- The script of a description and of a text with settings and timed lines.
use Rattle.std.specs.Prelude.{ℕ, List, Result, Ok, Err}
use Rattle.script_lang.specs.declared.fault.ScriptFault.{ScriptFault}
use Rattle.script_lang.specs.declared.fault.ScriptFault.TheVariants as script
use Rattle.script_lang.specs.Contents.{Contents}
use Rattle.script_lang.specs.Times.{script_of_times}
use Rattle.sdp_profile.specs.declared.fault.Fault.{Fault}
use Rattle.sdp_profile.specs.declared.fault.SdpFault.{SdpFault}
use Rattle.sdp_profile.specs.declared.fault.SdpFault.TheVariants.{Times, OutOfMemory}
use Rattle.sdp_profile.specs.Sections.{Described}
use Rattle.sdp_profile.specs.Descriptions.{description_of}
use Rattle.sdp_profile.specs.Reading.{fault_in}

-- a bad line of the settings and timed lines
abbrev pub times_fault : ScriptFault → SdpFault
times_fault (script.Bad line cause) = Times line cause
times_fault script.OutOfMemory = OutOfMemory

-- the lines of the description, with the settings and timed lines of a script
abbrev pub joined : Described → Contents → Contents
joined d c = record {
  sessions = d.sessions;
  pts = d.pts;
  rtx = d.rtx;
  fids = d.fids;
  items = c.items;
  settings = c.settings;
}

abbrev pub with_times : Described → Result Contents ScriptFault → Result Contents SdpFault
with_times d (Ok c) = Ok (joined d c)
with_times d (Err fault) = Err (times_fault fault)

abbrev pub with_description : Result Described Fault → List ℕ → Result Contents SdpFault
with_description (Ok d) times = with_times d (script_of_times d.sessions times)
with_description (Err fault) times = Err (fault_in fault)

-- The text with settings and timed lines is tested behind the description, and with its sessions.
unfoldable pub described_script : List ℕ → List ℕ → Result Contents SdpFault
described_script sdp times = with_description (description_of sdp) times
