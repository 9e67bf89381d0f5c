-- The packet that fields ask for.
use Rattle.std.specs.Prelude.{◌≤◌, ◌<◌, ◌^◌, ℕ, ◌+◌, ◌/◌, if◌then◌else◌, List, [], ◌∷◌, ◌++◌, length, Option, Some, None, option_map, is_some, IfSome}
use Rattle.std.specs.List.{flat_map}
use Rattle.byteorder.specs.Endian.{big_bytes}
use Rattle.rtp_wire.specs.Packet.{Packet, AreWords}
use Rattle.rtp_wire.specs.declared.fields.RtpFields.{RtpFields}

-- What has a packet: a payload type of seven bits, and an extension of whole words.
pub record IsWritable (f : RtpFields) : Type 0 where
  pub pt : f.pt ≤ 127
  pub words : IfSome f.extension (λ x. AreWords x.1.now)

-- The numbers fit their widths, as those of each value of the type do.
pub record IsInRange (f : RtpFields) : Type 0 where
  pub seq : f.seq < 2 ^ 16
  pub timestamp : f.timestamp < 2 ^ 32
  pub ssrc : f.ssrc < 2 ^ 32
  pub csrcs : length f.csrcs.items ≤ 15

-- the packet of these fields and bytes, without padding
abbrev pub packet_with : RtpFields → List ℕ → Packet
packet_with f bytes = record {
  marker = f.marker;
  pt = f.pt;
  seq = f.seq;
  timestamp = f.timestamp;
  ssrc = f.ssrc;
  csrcs = f.csrcs.items;
  extension = option_map (λ x. (x.0, x.1.now)) f.extension;
  payload = f.payload.now;
  padding = 0;
  bytes = bytes;
}

-- ---- the pieces that are written one after the other

abbrev pub version_byte : Packet → ℕ
version_byte p = 128 + (if is_some p.extension then 16 else 0) + length p.csrcs

abbrev pub type_byte : Packet → ℕ
type_byte p = (if p.marker then 128 else 0) + p.pt

-- the twelve bytes that each header has
abbrev pub fixed_bytes : Packet → List ℕ
fixed_bytes p = (version_byte p ∷ type_byte p ∷ []) ++ big_bytes 2 p.seq ++ big_bytes 4 p.timestamp ++ big_bytes 4 p.ssrc

abbrev pub csrc_bytes : List ℕ → List ℕ
csrc_bytes csrcs = flat_map (big_bytes 4) csrcs

abbrev pub extension_bytes : Option (ℕ × List ℕ) → List ℕ
extension_bytes None = []
extension_bytes (Some (profile, words)) = big_bytes 2 profile ++ big_bytes 2 (length words / 4) ++ words

-- all of them
abbrev pub spelling : Packet → List ℕ
spelling p = fixed_bytes p ++ csrc_bytes p.csrcs ++ extension_bytes p.extension ++ p.payload
