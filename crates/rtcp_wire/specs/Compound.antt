-- A datagram as a compound of packets (RFC 3550, section 6.1).
use Rattle.std.specs.Prelude.{ℕ, zero, suc, ◌+◌, ◌-◌, ◌*◌, ◌/◌, ◌%◌, ◌==◌, ◌&&◌, ◌||◌, not, nat_lt, if◌then◌else◌, Bool, List, [], ◌∷◌, length, take, drop, slice_index, Option, Some, None, Result, Ok, Err}
use Rattle.rtp_wire.specs.Network.{number16}
use Rattle.rtcp_wire.specs.declared.packet.Rtcp.{Rtcp}
use Rattle.rtcp_wire.specs.declared.fault.RtcpFault.{RtcpFault}
use Rattle.rtcp_wire.specs.declared.fault.RtcpFault.TheVariants.{Short, Version, Length, Padding, First, Body}
use Rattle.rtcp_wire.specs.Bodies.{packet_of}

-- ---- the header of the packet that these bytes begin with

abbrev pub version_of : List ℕ → ℕ
version_of bytes = slice_index bytes 0 / 64

abbrev pub has_padding : List ℕ → Bool
has_padding bytes = slice_index bytes 0 / 32 % 2 == 1

abbrev pub count_of : List ℕ → ℕ
count_of bytes = slice_index bytes 0 % 32

abbrev pub kind_of : List ℕ → ℕ
kind_of bytes = slice_index bytes 1

-- bytes of the packet, its header included
abbrev pub size_of : List ℕ → ℕ
size_of bytes = 4 * (number16 bytes 2 + 1)

-- the byte that ends the packet
abbrev pub final_byte : List ℕ → ℕ
final_byte bytes = slice_index bytes (size_of bytes - 1)

-- bytes of padding at the end of the packet
abbrev pub padding_of : List ℕ → ℕ
padding_of bytes = if has_padding bytes then final_byte bytes else 0

-- the body without padding
abbrev pub body_of : List ℕ → List ℕ
body_of bytes = take (size_of bytes - 4 - padding_of bytes) (drop 4 bytes)

-- ---- the first failing test of a header, at this offset

abbrev pub is_bad_count : ℕ → ℕ → Bool
is_bad_count count body = count == 0 || not (count % 4 == 0) || nat_lt body count

abbrev pub is_bad_padding : List ℕ → Bool
is_bad_padding bytes = has_padding bytes && (not (length bytes == size_of bytes) || is_bad_count (final_byte bytes) (size_of bytes - 4))

abbrev pub is_bad_first : ℕ → ℕ → Bool
is_bad_first offset kind = offset == 0 && (nat_lt kind 200 || nat_lt 206 kind)

unfoldable pub header_fault : ℕ → List ℕ → Option RtcpFault
header_fault offset bytes =
    if nat_lt (length bytes) 4 then Some (Short offset)
    else if not (version_of bytes == 2) then Some (Version offset)
    else if nat_lt (length bytes) (size_of bytes) then Some (Length offset)
    else if is_bad_padding bytes then Some (Padding offset)
    else if is_bad_first offset (kind_of bytes) then Some (First offset)
    else None

abbrev pub fault_then : (ℕ → List ℕ → Option RtcpFault) → ℕ → List ℕ → Option RtcpFault → Option RtcpFault
fault_then behind offset bytes (Some fault) = Some fault
fault_then behind offset bytes None = if length bytes == size_of bytes then None else behind (offset + size_of bytes) (drop (size_of bytes) bytes)

-- The first failing test of the headers from this offset on. A packet takes four bytes, so as many steps as bytes serve.
unfoldable pub headers_fault : ℕ → ℕ → List ℕ → Option RtcpFault
headers_fault zero offset bytes = Some (Short offset)
headers_fault (suc n) offset bytes = fault_then (headers_fault n) offset bytes (header_fault offset bytes)

-- ---- the packets, where no header fails

abbrev pub with_packet : Rtcp → Result (List Rtcp) RtcpFault → Result (List Rtcp) RtcpFault
with_packet packet (Ok packets) = Ok (packet ∷ packets)
with_packet packet (Err fault) = Err fault

-- the packet that these bytes begin with, or the fault of its body
abbrev pub body_or_fault : ℕ → ℕ → Option Rtcp → Result Rtcp RtcpFault
body_or_fault offset kind (Some packet) = Ok packet
body_or_fault offset kind None = Err (Body offset kind)

abbrev pub packet_or_fault : ℕ → List ℕ → Result Rtcp RtcpFault
packet_or_fault offset bytes = body_or_fault offset (kind_of bytes) (packet_of (kind_of bytes) (count_of bytes) (body_of bytes))

abbrev pub packet_then : (ℕ → List ℕ → Result (List Rtcp) RtcpFault) → ℕ → List ℕ → Result Rtcp RtcpFault → Result (List Rtcp) RtcpFault
packet_then behind offset bytes (Err fault) = Err fault
packet_then behind offset bytes (Ok packet) =
    if length bytes == size_of bytes then Ok (packet ∷ [])
    else with_packet packet (behind (offset + size_of bytes) (drop (size_of bytes) bytes))

unfoldable pub packets_at : ℕ → ℕ → List ℕ → Result (List Rtcp) RtcpFault
packets_at zero offset bytes = Ok []
packets_at (suc n) offset bytes = packet_then (packets_at n) offset bytes (packet_or_fault offset bytes)

-- the packets of a datagram, or the first test that it fails: all headers before the bodies
abbrev pub compound_behind : Option RtcpFault → Result (List Rtcp) RtcpFault → Result (List Rtcp) RtcpFault
compound_behind (Some fault) packets = Err fault
compound_behind None packets = packets

unfoldable pub compound_of : List ℕ → Result (List Rtcp) RtcpFault
compound_of bytes = compound_behind (headers_fault (length bytes) 0 bytes) (packets_at (length bytes) 0 bytes)
