-- What a packet and a gap tell, after all that a lane gave before.
use Rattle.std.specs.Prelude.{ℕ, if◌then◌else◌, Bool, true, false, List, [], ◌∷◌, ◌++◌, map, length, Option, Some, None, Result, Ok, Err}
use Rattle.rtp_units.specs.declared.memory.OutOfMemory.{OutOfMemory}
use Rattle.depay.specs.declared.outcome.Cause.{Cause}
use Rattle.depay.specs.declared.outcome.Cause.TheVariants.{Large, Incomplete}
use Rattle.depay.specs.declared.outcome.Format.{Format}
use Rattle.depay.specs.declared.outcome.Outcome.{Outcome}
use Rattle.depay.specs.declared.outcome.Outcome.TheVariants.{Unit as Whole, Broken}
use Rattle.depay.specs.Payload.{is_over, has_end, fault_of, units_by}
use Rattle.depay.specs.Fragments.{Packet, Call, goes_on, oldest, joined, open_in}

-- The packet goes on with the unit of these packets.
abbrev pub is_continued : List Packet → Packet → Bool
is_continued [] p = false
is_continued (q ∷ earlier) p = goes_on q p

-- the number of the open unit's first packet
abbrev pub first_number : List Packet → Option ℕ
first_number [] = None
first_number (q ∷ earlier) = Some (oldest q earlier).number

-- ---- a packet that goes on with the open unit

-- the unit of these packets, whole with this one
abbrev pub whole_unit : Packet → List Packet → Outcome
whole_unit p earlier = Whole (oldest p earlier).number p.number (oldest p earlier).pts (joined p earlier)

-- A unit that passes the most bytes is dropped, and only this packet is named; else the end bit makes it whole.
abbrev pub going_on : Packet → List Packet → List Outcome
going_on p earlier =
    if is_over (length (joined p earlier)) then Broken p.number Large ∷ []
    else if has_end p.payload then whole_unit p earlier ∷ []
    else []

-- ---- any other packet

-- an open unit that isn't gone on with
abbrev pub left_open : Option ℕ → List Outcome
left_open None = []
left_open (Some first) = Broken first Incomplete ∷ []

abbrev pub single_unit : Packet → List ℕ → Outcome
single_unit p bytes = Whole p.number p.number p.pts bytes

abbrev pub alone_by : Packet → Option Cause → List (List ℕ) → List Outcome
alone_by p (Some cause) units = Broken p.number cause ∷ []
alone_by p None units = map (single_unit p) units

-- the units of the packet itself, or its fault
abbrev pub alone : Format → Packet → List Outcome
alone format p = alone_by p (fault_of format p.payload) (units_by format p.payload)

-- ---- the outcomes

abbrev pub outcomes_by : Format → List Packet → Packet → List Outcome
outcomes_by format before p =
    if is_continued before p then going_on p before else left_open (first_number before) ++ alone format p

-- what a packet tells after these calls
abbrev pub outcomes_of : Format → List Call → Packet → List Outcome
outcomes_of format calls p = outcomes_by format (open_in format calls) p

-- the number that a gap after these calls tells
abbrev pub gap_of : Format → List Call → Option ℕ
gap_of format calls = first_number (open_in format calls)

-- A call that memory was refused adds nothing.
abbrev pub calls_after : {X : Type 0} → Call → List Call → Result X OutOfMemory → List Call
calls_after call calls (Ok x) = call ∷ calls
calls_after call calls (Err e) = calls
