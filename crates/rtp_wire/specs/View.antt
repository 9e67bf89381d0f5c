-- What a view of a packet's bytes shows: each field by its place.
use Rattle.std.specs.Prelude.{◌≡◌, ◌≤◌, ℕ, ◌+◌, ◌-◌, ◌*◌, ◌/◌, ◌%◌, ◌==◌, true, false, if◌then◌else◌, Bool, List, map, length, take, drop, slice_index, Option, Some, None}
use Rattle.std.specs.List.{range_with_len}
use Rattle.rtp_wire.specs.Network.{number16, number32}
use Rattle.rtp_wire.specs.Packet.{Packet, IsPacket, version_of, has_padding, has_extension, csrc_count, csrcs_end, header_end, last_byte, first_fault}

abbrev pub csrcs_of : List ℕ → ℕ → List ℕ
csrcs_of bytes count = map (λ k. number32 bytes (12 + 4 * k)) (range_with_len 0 count)

abbrev pub extension_of : List ℕ → Bool → ℕ → Option (ℕ × List ℕ)
extension_of bytes true at = Some (number16 bytes at, take (4 * number16 bytes (at + 2)) (drop (at + 4) bytes))
extension_of bytes false at = None

abbrev pub padding_of : List ℕ → ℕ
padding_of bytes = if has_padding bytes then last_byte bytes else 0

abbrev pub payload_of : List ℕ → ℕ → ℕ → List ℕ
payload_of bytes from padding = take (length bytes - padding - from) (drop from bytes)

abbrev pub packet_of : List ℕ → Packet
packet_of bytes = record {
  marker = slice_index bytes 1 / 128 == 1;
  pt = slice_index bytes 1 % 128;
  seq = number16 bytes 2;
  timestamp = number32 bytes 4;
  ssrc = number32 bytes 8;
  csrcs = csrcs_of bytes (csrc_count bytes);
  extension = extension_of bytes (has_extension bytes) (csrcs_end bytes);
  payload = payload_of bytes (header_end bytes) (padding_of bytes);
  padding = padding_of bytes;
  bytes = bytes;
}

-- The bytes have a whole header, which ends here.
pub record IsHeaderEnd (bytes : List ℕ) (end : ℕ) : Type 0 where
  pub fixed : 12 ≤ length bytes
  pub version : version_of bytes ≡ 2
  pub csrcs : csrcs_end bytes ≤ length bytes
  pub whole : header_end bytes ≤ length bytes
  pub value : end ≡ header_end bytes

-- What a view keeps beside the bytes is right, and no test failed.
pub record IsRead (bytes : List ℕ) (end padding : ℕ) : Type 0 where
  pub header : IsHeaderEnd bytes end
  pub fits : first_fault bytes ≡ None
  pub count : padding ≡ padding_of bytes
  pub room : end + padding ≤ length bytes

-- A packet is the one that its bytes show, and they fail no test.
abbrev pub AreTheirBytes : Type 0
AreTheirBytes =
    (p : Packet) → IsPacket p → (first_fault p.bytes ≡ None) × (p ≡ packet_of p.bytes)
