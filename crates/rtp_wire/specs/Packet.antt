-- An RTP packet by the places of its fields in its bytes (RFC 3550, section 5.1).
use Rattle.std.specs.Prelude.{◌≡◌, ◌<◌, ◌≤◌, ℕ, ◌+◌, ◌-◌, ◌*◌, ◌/◌, ◌%◌, ◌==◌, ◌&&◌, ◌||◌, not, nat_lt, if◌then◌else◌, Bool, true, false, List, length, take, drop, slice_index, Option, Some, None}
use Rattle.rtp_wire.specs.Network.{number16, number32}
use Rattle.rtp_wire.specs.declared.fault.RtpFault.{RtpFault}
use Rattle.rtp_wire.specs.declared.fault.RtpFault.TheVariants.{Short, Version, Csrc, Extension, Padding}

-- a packet: its fields and its bytes
pub record Packet : Type 0 where
  pub marker : Bool
  pub pt : ℕ
  pub seq : ℕ
  pub timestamp : ℕ
  pub ssrc : ℕ
  pub csrcs : List ℕ
  -- what the profile defines, and the bytes of whole words
  pub extension : Option (ℕ × List ℕ)
  pub payload : List ℕ
  -- how many bytes of padding follow the payload
  pub padding : ℕ
  pub bytes : List ℕ

-- ---- the first two bytes

abbrev pub version_of : List ℕ → ℕ
version_of bytes = slice_index bytes 0 / 64

abbrev pub has_padding : List ℕ → Bool
has_padding bytes = slice_index bytes 0 / 32 % 2 == 1

abbrev pub has_extension : List ℕ → Bool
has_extension bytes = slice_index bytes 0 / 16 % 2 == 1

abbrev pub csrc_count : List ℕ → ℕ
csrc_count bytes = slice_index bytes 0 % 16

-- ---- the grammar

-- how many bytes an extension takes, the four that begin it included
abbrev pub extension_size : Option (ℕ × List ℕ) → ℕ
extension_size None = 0
extension_size (Some (profile, words)) = 4 + length words

-- The bytes of an extension behind its head: whole words, at most 65,535 of them.
pub record AreWords (words : List ℕ) : Type 0 where
  pub whole : length words % 4 ≡ 0
  pub few : length words ≤ 262140

-- At this place the extension begins: what the profile defines, a count of words, and the words.
abbrev pub HasExtension : List ℕ → ℕ → Option (ℕ × List ℕ) → Type 0
HasExtension bytes at None = has_extension bytes ≡ false
HasExtension bytes at (Some (profile, words)) =
    (has_extension bytes ≡ true) × (profile ≡ number16 bytes at) × (length words ≡ 4 * number16 bytes (at + 2))
    × (words ≡ take (length words) (drop (at + 4) bytes))

-- Without the bit there is no padding; with it the last byte counts the padding, itself included.
abbrev pub HasPadding : List ℕ → ℕ → Bool → Type 0
HasPadding bytes padding true = (0 < padding) × (padding ≡ slice_index bytes (length bytes - 1))
HasPadding bytes padding false = padding ≡ 0

-- where the payload begins
abbrev pub payload_place : Packet → ℕ
payload_place p = 12 + 4 * length p.csrcs + extension_size p.extension

-- The bytes are a packet with these fields.
pub record IsPacket (p : Packet) : Type 0 where
  pub version : version_of p.bytes ≡ 2
  pub marker : p.marker ≡ (slice_index p.bytes 1 / 128 == 1)
  pub pt : p.pt ≡ slice_index p.bytes 1 % 128
  pub seq : p.seq ≡ number16 p.bytes 2
  pub timestamp : p.timestamp ≡ number32 p.bytes 4
  pub ssrc : p.ssrc ≡ number32 p.bytes 8
  pub csrc_count : length p.csrcs ≡ csrc_count p.bytes
  pub csrcs : (k : ℕ) → k < length p.csrcs → slice_index p.csrcs k ≡ number32 p.bytes (12 + 4 * k)
  pub extension : HasExtension p.bytes (12 + 4 * length p.csrcs) p.extension
  pub payload : p.payload ≡ take (length p.payload) (drop (payload_place p) p.bytes)
  pub padding : HasPadding p.bytes p.padding (has_padding p.bytes)
  pub whole : length p.bytes ≡ payload_place p + length p.payload + p.padding

-- ---- the first failing test

-- the place behind the CSRCs
abbrev pub csrcs_end : List ℕ → ℕ
csrcs_end bytes = 12 + 4 * csrc_count bytes

-- the place behind the words of an extension; it lies past the end too where the count of words does
abbrev pub extension_end : List ℕ → ℕ
extension_end bytes = csrcs_end bytes + 4 + 4 * number16 bytes (csrcs_end bytes + 2)

-- the place behind the header
abbrev pub header_end : List ℕ → ℕ
header_end bytes = if has_extension bytes then extension_end bytes else csrcs_end bytes

-- the last byte
abbrev pub last_byte : List ℕ → ℕ
last_byte bytes = slice_index bytes (length bytes - 1)

-- a count of padding that doesn't fit so many bytes
abbrev pub is_bad_padding : ℕ → ℕ → Bool
is_bad_padding count left = left == 0 || count == 0 || nat_lt left count

-- the first test that bytes fail, if they fail one
unfoldable pub first_fault : List ℕ → Option RtpFault
first_fault bytes =
    if nat_lt (length bytes) 12 then Some Short
    else if not (version_of bytes == 2) then Some Version
    else if nat_lt (length bytes) (csrcs_end bytes) then Some Csrc
    else if nat_lt (length bytes) (header_end bytes) then Some Extension
    else if has_padding bytes && is_bad_padding (last_byte bytes) (length bytes - header_end bytes) then Some Padding
    else None
