-- What reading the two texts answers.
use Rattle.std.specs.Prelude.{◌≡◌, ◌⊎◌, ℕ, IsTrue, List, None, Result, Ok, Err}
use Rattle.rtp_io.specs.Outside.{Disk}
use Rattle.script_lang.specs.Contents.{Contents}
use Rattle.command_core.specs.declared.stop.Stop.TheVariants as stop
use Rattle.command_core.specs.Inputs.{IsBeingRead}
use Rattle.sdp_profile.specs.declared.fault.SdpFault.TheVariants.{Bad, Times}
use Rattle.sdp_profile.specs.Scripts.{described_script}
use Rattle.sdp_command.specs.declared.failure.Failure.{Failure}
use Rattle.sdp_command.specs.declared.failure.Failure.TheVariants.{Stopped, Description}

-- the script of these texts, or their fault
abbrev pub Tells : Result Contents Failure → List ℕ → List ℕ → Type 0
Tells (Ok c) sdp times = described_script sdp times ≡ Ok c
Tells (Err (Description line cause)) sdp times = described_script sdp times ≡ Err (Bad line cause)
Tells (Err (Stopped (stop.Script line cause))) sdp times =
    described_script sdp times ≡ Err (Times line cause)
Tells (Err (Stopped stop.Memory)) sdp times = Unit {0}
Tells (Err (Stopped other)) sdp times = ⊥

-- reading the description and the settings and timed lines of these names
abbrev pub ReadsDescribed : Result Contents Failure → List ℕ → List ℕ → Disk → Disk → Type 0
ReadsDescribed (Err (Stopped stop.Read)) sdp times before after =
    IsTrue before.told
    → (after.opened ≡ None) ⊎ (IsBeingRead sdp after ⊎ IsBeingRead times after)
ReadsDescribed (Err (Stopped stop.Memory)) sdp times before after = Unit {0}
ReadsDescribed (Err (Stopped stop.Usage)) sdp times before after = ⊥
ReadsDescribed (Err (Stopped stop.Write)) sdp times before after = ⊥
ReadsDescribed (Err (Stopped (stop.Capture fault))) sdp times before after = ⊥
ReadsDescribed (Err (Stopped (stop.Script line cause))) sdp times before after =
    IsTrue before.told
    → described_script (before.contents sdp) (before.contents times) ≡ Err (Times line cause)
ReadsDescribed (Err (Description line cause)) sdp times before after =
    IsTrue before.told
    → described_script (before.contents sdp) (before.contents times) ≡ Err (Bad line cause)
ReadsDescribed (Ok c) sdp times before after =
    IsTrue before.told → described_script (before.contents sdp) (before.contents times) ≡ Ok c
