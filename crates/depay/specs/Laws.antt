-- What holds of every unit.
use Rattle.std.specs.Prelude.{◌≡◌, ◌≤◌, ◌⊎◌, ℕ, ◌+◌, Bool, true, false, List, [], ◌∷◌, ◌++◌, map, length, slice_index, Contains, None}
use Rattle.depay.specs.declared.outcome.Format.{Format}
use Rattle.depay.specs.declared.outcome.Format.TheVariants.{H264}
use Rattle.depay.specs.declared.outcome.Outcome.{Outcome}
use Rattle.depay.specs.declared.outcome.Outcome.TheVariants.{Unit as Whole}
use Rattle.depay.specs.Payload.{nal_type, is_unit_type, has_start, has_end, fu_type, fault_of, units_by}
use Rattle.depay.specs.Fragments.{Packet, Call, Takes, oldest, joined}
use Rattle.depay.specs.Outcomes.{outcomes_of}

-- Each packet has the number after that of the one before it, and the first one has this number.
abbrev pub AreConsecutive : ℕ → Packet → List Packet → Type 0
AreConsecutive first p [] = p.number ≡ first
AreConsecutive first p (q ∷ earlier) = (p.number ≡ q.number + 1) × AreConsecutive first q earlier

-- A fragment of the unit that this last packet ends.
pub record IsFragmentOf (last p : Packet) : Type 0 where
  pub kind : nal_type p.payload ≡ 28
  pub rtp : p.rtp ≡ last.rtp
  pub first_byte : slice_index p.payload 0 ≡ slice_index last.payload 0
  pub unit_type : fu_type p.payload ≡ fu_type last.payload

abbrev pub AreFragmentsOf : Packet → List Packet → Type 0
AreFragmentsOf last [] = Unit {0}
AreFragmentsOf last (p ∷ earlier) = IsFragmentOf last p × AreFragmentsOf last earlier

-- The first packet alone has the start bit.
abbrev pub StartsOnce : Packet → List Packet → Type 0
StartsOnce p [] = has_start p.payload ≡ true
StartsOnce p (q ∷ earlier) = (has_start p.payload ≡ false) × StartsOnce q earlier

-- None of these packets has the end bit.
abbrev pub EndNowhere : List Packet → Type 0
EndNowhere [] = Unit {0}
EndNowhere (p ∷ earlier) = (has_end p.payload ≡ false) × EndNowhere earlier

-- A unit of one packet, by itself.
pub record IsAlone (format : Format) (p : Packet) (earlier : List Packet) (bytes : List ℕ) : Type 0 where
  pub only : earlier ≡ []
  pub sound : fault_of format p.payload ≡ None
  pub unit : Contains (units_by format p.payload) bytes

-- A unit of fragments: all of one timestamp, first byte and type, the start bit on the first alone and the end bit on the last alone.
pub record IsJoined (format : Format) (p : Packet) (earlier : List Packet) (bytes : List ℕ) : Type 0 where
  pub format_is : format ≡ H264
  pub alike : AreFragmentsOf p (p ∷ earlier)
  pub starts : StartsOnce p earlier
  pub end : has_end p.payload ≡ true
  pub ends_once : EndNowhere earlier
  pub bytes_are : bytes ≡ joined p earlier
  pub fits : length bytes ≤ 1048576

-- This packet and the earlier ones, which were given one after another with nothing between, have consecutive numbers and make the unit.
pub record IsWhole (format : Format) (calls : List Call) (p : Packet) (first last pts : ℕ) (bytes : List ℕ) : Type 0 where
  pub earlier : List Packet
  pub before : List Call
  pub neighbours : calls ≡ map Takes earlier ++ before
  pub consecutive : AreConsecutive first p earlier
  pub last_is : last ≡ p.number
  pub pts_is : pts ≡ (oldest p earlier).pts
  pub made : IsAlone format p earlier bytes ⊎ IsJoined format p earlier bytes

-- Each unit that a packet tells after these calls is whole.
abbrev pub UnitsAreWhole : Type 0
UnitsAreWhole =
    (format : Format) (calls : List Call) (p : Packet) (first last pts : ℕ) (bytes : List ℕ)
    → Contains (outcomes_of format calls p) (Whole first last pts bytes) → IsWhole format calls p first last pts bytes
