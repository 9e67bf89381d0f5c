-- What reading leaves, step by step.
use Rattle.std.specs.Prelude.{◌≡◌, ℕ, List, ◌++◌, map, Option, None, Result, Ok, Err}
use Rattle.sdp_profile.specs.declared.fault.Fault.{Fault}
use Rattle.sdp_profile.specs.declared.fault.SdpFault.{SdpFault}
use Rattle.sdp_profile.specs.declared.fault.SdpFault.TheVariants.{Bad, Times, OutOfMemory}
use Rattle.sdp_profile.specs.declared.lines.TextLine.{TextLine}
use Rattle.rtp_units.specs.declared.shared.Fid.{Fid}
use Rattle.sdp_profile.specs.declared.attribute.Placed.{Placed}
use Rattle.sdp_profile.specs.Text.{Line}
use Rattle.sdp_profile.specs.Attributes.{placed_of}
use Rattle.sdp_profile.specs.Pairs.{fids_of, fault_of_pairs}

-- lines without where they lie in memory
abbrev pub line_in : TextLine → Line
line_in l = record { number = l.number; text = l.text.now }

abbrev pub lines_in : List TextLine → List Line
lines_in lines = map line_in lines

abbrev pub placed_in : TextLine → Placed
placed_in l = placed_of (line_in l)

-- the fault, as a call answers it
abbrev pub fault_in : Fault → SdpFault
fault_in fault = Bad fault.line fault.cause

-- a call answers this, unless memory runs out
abbrev pub Answers : {A : Type 0} → Result A SdpFault → Result A Fault → Type 0
Answers (Ok value) answer = answer ≡ Ok value
Answers (Err (Bad line cause)) answer = answer ≡ Err (record { line = line; cause = cause })
Answers (Err OutOfMemory) answer = Unit {0}
Answers (Err (Times line cause)) answer = ⊥

-- a call leaves this, unless memory runs out
abbrev pub Leaves : {A : Type 0} → Result (Unit {0}) SdpFault → Result A Fault → A → Type 0
Leaves (Ok x) answer new = answer ≡ Ok new
Leaves (Err (Bad line cause)) answer new = answer ≡ Err (record { line = line; cause = cause })
Leaves (Err OutOfMemory) answer new = Unit {0}
Leaves (Err (Times line cause)) answer new = ⊥

-- a call answers this, unless memory runs out
abbrev pub Gives : {A : Type 0} → Result A SdpFault → Result A SdpFault → Type 0
Gives (Ok value) answer = answer ≡ Ok value
Gives (Err (Bad line cause)) answer = answer ≡ Err (Bad line cause)
Gives (Err (Times line cause)) answer = answer ≡ Err (Times line cause)
Gives (Err OutOfMemory) answer = Unit {0}

-- the fault of a section's pairs, or with all of them
abbrev pub AddsPairs : Option Fault → List Fid → List Fid → ℕ → List Placed → Type 0
AddsPairs fault old new session lines =
    (fault_of_pairs old session lines ≡ fault)
    × (fault ≡ None → new ≡ old ++ fids_of session lines)
