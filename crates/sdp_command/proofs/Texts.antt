-- What the two texts tell once they were read.
use Rattle.std.proofs.Common.{◌≡◌, ℕ, List, Result, Ok, Err, IsTrue, refl, ◌∙◌, inl, inr}
use Rattle.script_lang.specs.Contents.{Contents}
use Rattle.command_core.specs.declared.stop.Stop.{Stop}
use Rattle.command_core.specs.declared.stop.Stop.TheVariants as stop
use Rattle.command_core.specs.Inputs.{ReadsInput}
use Rattle.sdp_profile.specs.declared.fault.SdpFault.{SdpFault}
use Rattle.sdp_profile.specs.declared.fault.SdpFault.TheVariants as fault
use Rattle.sdp_profile.specs.Reading.{Gives}
use Rattle.sdp_profile.specs.Scripts.{described_script}
use Rattle.rtp_io.specs.Outside.{Disk}
use Rattle.sdp_command.specs.declared.failure.Failure.{Failure}
use Rattle.sdp_command.specs.declared.failure.Failure.TheVariants.{Stopped, Description}
use Rattle.sdp_command.specs.Failures.{failure_of_fault, HasFailureCause}
use Rattle.sdp_command.specs.Reading.{ReadsDescribed, Tells}

pub tells_fault : (why : SdpFault) (sdp times : List ℕ)
    → Gives {A = Contents} (Err why) (described_script sdp times)
    → Tells (Err (failure_of_fault why)) sdp times
tells_fault (fault.Bad line cause) sdp times is = is
tells_fault (fault.Times line cause) sdp times is = is
tells_fault fault.OutOfMemory sdp times is = tt

pub tells_cause : (r : Result Contents Failure) (sdp times : List ℕ) (f f' : ℕ) → f' ≡ f
    → Tells r sdp times → HasFailureCause r f f' 0 0
tells_cause (Ok c) sdp times f f' same tells = (same, refl)
tells_cause (Err (Description line cause)) sdp times f f' same tells = (same, refl)
tells_cause (Err (Stopped (stop.Script line cause))) sdp times f f' same tells = (same, refl)
tells_cause (Err (Stopped stop.Memory)) sdp times f f' same tells = (same, refl)
tells_cause (Err (Stopped stop.Usage)) sdp times f f' same tells = absurd tells
tells_cause (Err (Stopped stop.Read)) sdp times f f' same tells = absurd tells
tells_cause (Err (Stopped stop.Write)) sdp times f f' same tells = absurd tells
tells_cause (Err (Stopped (stop.Capture why))) sdp times f f' same tells = absurd tells

-- the fronts that were read tell what the files do
pub reads_described : (r : Result Contents Failure) (sdp times s t : List ℕ) (before after : Disk)
    → (IsTrue before.told → described_script (before.contents sdp) (before.contents times)
    ≡ described_script s t)
    → Tells r s t → ReadsDescribed r sdp times before after
reads_described (Ok c) sdp times s t before after same tells = λ told. same told ∙ tells
reads_described (Err (Description line cause)) sdp times s t before after same tells =
    λ told. same told ∙ tells
reads_described (Err (Stopped (stop.Script line cause))) sdp times s t before after same tells =
    λ told. same told ∙ tells
reads_described (Err (Stopped stop.Memory)) sdp times s t before after same tells = tt
reads_described (Err (Stopped stop.Usage)) sdp times s t before after same tells = absurd tells
reads_described (Err (Stopped stop.Read)) sdp times s t before after same tells = absurd tells
reads_described (Err (Stopped stop.Write)) sdp times s t before after same tells = absurd tells
reads_described (Err (Stopped (stop.Capture why))) sdp times s t before after same tells =
    absurd tells

-- the description could not be read
pub sdp_fails : (why : Stop) (sdp times : List ℕ) (most : ℕ) (before after : Disk)
    → ReadsInput (Err why) sdp most before after
    → ReadsDescribed (Err (Stopped why)) sdp times before after
sdp_fails stop.Read sdp times most before after fails = λ told. elim (fails told) [
  | inl closed ↦ inl closed
  | inr opened ↦ inr (inl opened)
]
sdp_fails stop.Memory sdp times most before after fails = tt
sdp_fails stop.Usage sdp times most before after fails = absurd fails
sdp_fails stop.Write sdp times most before after fails = absurd fails
sdp_fails (stop.Script line cause) sdp times most before after fails = absurd fails
sdp_fails (stop.Capture fault) sdp times most before after fails = absurd fails

-- the other text could not be read, behind the description
pub times_fails : (why : Stop) (sdp times : List ℕ) (most : ℕ) (before mid after : Disk)
    → (IsTrue before.told → IsTrue mid.told) → ReadsInput (Err why) times most mid after
    → ReadsDescribed (Err (Stopped why)) sdp times before after
times_fails stop.Read sdp times most before mid after told' fails = λ told.
    elim (fails (told' told)) [
      | inl closed ↦ inl closed
      | inr opened ↦ inr (inr opened)
    ]
times_fails stop.Memory sdp times most before mid after told' fails = tt
times_fails stop.Usage sdp times most before mid after told' fails = absurd fails
times_fails stop.Write sdp times most before mid after told' fails = absurd fails
times_fails (stop.Script line cause) sdp times most before mid after told' fails = absurd fails
times_fails (stop.Capture fault) sdp times most before mid after told' fails = absurd fails
