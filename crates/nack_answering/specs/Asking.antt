-- What a record asks of a history of sent packets.
use Rattle.std.specs.Prelude.{ℕ, ◌+◌, ◌%◌, ◌==◌, Bool, List, [], ◌∷◌, map, filter, if◌then◌else◌}
use Rattle.std.specs.Int.{bit_at}
use Rattle.std.specs.List.{flat_map, range_with_len}
use Rattle.rtcp_wire.specs.declared.packet.Nack.{Nack}
use Rattle.rtcp_wire.specs.declared.packet.Rtcp.{Rtcp}
use Rattle.rtcp_wire.specs.declared.packet.Rtcp.TheVariants as packet
use Rattle.rtx.specs.Answering.{Call, Remembers, Answers}
use Rattle.front_model.specs.Records.{Holding, Packet, Compound}
use Rattle.nack_answering.specs.declared.request.Request.{Request}

abbrev pub request : ℕ → ℕ → ℕ → Request
request session ssrc seq = record { session = session; ssrc = ssrc; seq = seq }

-- ---- the numbers of an entry of a generic NACK (RFC 4585, section 6.2.1)

-- Bit i, the least being 0, is set.
abbrev pub has_bit : Nack → ℕ → Bool
has_bit entry i = bit_at entry.blp i == 1

-- the number that bit i stands for
abbrev pub following : Nack → ℕ → ℕ
following entry i = (entry.pid + i + 1) % 65536

-- its own number, and then those of the bits that are set, from the least bit on
abbrev pub numbers_of : Nack → List ℕ
numbers_of entry = entry.pid ∷ map (following entry) (filter (has_bit entry) (range_with_len 0 16))

-- ---- what a record asks for

abbrev pub entry_requests : ℕ → ℕ → Nack → List Request
entry_requests session media entry = map (request session media) (numbers_of entry)

-- of these, what one bit asks for
abbrev pub bit_requests : ℕ → ℕ → Nack → ℕ → List Request
bit_requests session media entry i =
    if has_bit entry i then request session media (following entry i) ∷ [] else []

-- A generic NACK asks for numbers of its media stream.
abbrev pub packet_requests : ℕ → Rtcp → List Request
packet_requests session (packet.Nacks sender media list) =
    flat_map (entry_requests session media) list
packet_requests session other = []

-- by what a record holds, in order
abbrev pub requests_in : Holding → List Request
requests_in (Compound session packets) = flat_map (packet_requests session) packets
requests_in other = []

-- ---- what a record does to the history

abbrev pub asks_for : Request → Call
asks_for r = Answers r.session r.ssrc r.seq

-- A packet is to be remembered, and each request is answered in its turn.
abbrev pub calls_in : Holding → List Call
calls_in (Packet session from p) = Remembers session p ∷ []
calls_in (Compound session packets) = map asks_for (requests_in (Compound session packets))
calls_in other = []
