-- Fragmented units over the whole list of what a lane gave. All lists have the latest first.
use Rattle.std.specs.Prelude.{ℕ, ◌+◌, ◌==◌, ◌&&◌, not, if◌then◌else◌, Bool, true, false, List, [], ◌∷◌, ◌++◌, length, drop, slice_index}
use Rattle.depay.specs.declared.outcome.Format.{Format}
use Rattle.depay.specs.declared.outcome.Format.TheVariants.{Pcmu, H264}
use Rattle.depay.specs.Payload.{is_over, begins, has_end, fu_type, unit_header, is_later_fragment}

-- a packet that left a lane: its number, RTP timestamp, presentation time and payload
pub record Packet : Type 0 where
  pub number : ℕ
  pub rtp : ℕ
  pub pts : ℕ
  pub payload : List ℕ

abbrev pub packet : ℕ → ℕ → ℕ → List ℕ → Packet
packet number rtp pts payload = record { number = number; rtp = rtp; pts = pts; payload = payload }

-- what a lane gave: a packet of the payload type, or anything else, as a loss, a flush, a new segment or the end
pub data Call : Type 0 where
  Takes : Packet → Call
  Gaps : Call

-- The later fragment goes on where the earlier one stopped: the next number, the same timestamp, first byte and type, and no
-- start bit; the earlier one has no end bit.
abbrev pub goes_on : Packet → Packet → Bool
goes_on earlier later =
    later.number == earlier.number + 1 && later.rtp == earlier.rtp
    && is_later_fragment later.payload (slice_index earlier.payload 0) (fu_type earlier.payload) && not (has_end earlier.payload)

-- The packets, this one and those before it, are the first fragments of one unit.
abbrev pub are_fragments : Packet → List Packet → Bool
are_fragments p [] = begins p.payload
are_fragments p (q ∷ earlier) = goes_on q p && are_fragments q earlier

-- the first of the packets
abbrev pub oldest : Packet → List Packet → Packet
oldest p [] = p
oldest p (q ∷ earlier) = oldest q earlier

-- the bytes behind the FU headers
abbrev pub fragment_bytes : List Packet → List ℕ
fragment_bytes [] = []
fragment_bytes (p ∷ earlier) = fragment_bytes earlier ++ drop 2 p.payload

-- the bytes of the unit that the packets are fragments of, as far as they go
abbrev pub joined : Packet → List Packet → List ℕ
joined p earlier = unit_header p.payload ∷ fragment_bytes (p ∷ earlier)

-- The packets are fragments of one unit that isn't whole yet.
abbrev pub are_open : List Packet → Bool
are_open [] = false
are_open (p ∷ earlier) = are_fragments p earlier && not (has_end p.payload) && not (is_over (length (joined p earlier)))

-- the packets from the latest one that begins a fragmented unit on, all since the latest gap where none does
abbrev pub since_start : List Call → List Packet
since_start [] = []
since_start (Gaps ∷ before) = []
since_start (Takes p ∷ before) = if begins p.payload then p ∷ [] else p ∷ since_start before

-- the packets of the unit that is open after these calls, if one is
abbrev pub open_packets : List Call → List Packet
open_packets calls = if are_open (since_start calls) then since_start calls else []

abbrev pub open_in : Format → List Call → List Packet
open_in Pcmu calls = []
open_in H264 calls = open_packets calls
