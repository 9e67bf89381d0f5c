-- A compound by its packets: each stands where the one before it ends, and only the last may have padding.
use Rattle.std.specs.Prelude.{◌≡◌, ◌<◌, ◌≤◌, ℕ, ◌-◌, ◌%◌, true, false, List, [], ◌∷◌, length, drop, Some}
use Rattle.std.specs.List.{AllByRecursion}
use Rattle.rtcp_wire.specs.declared.packet.SdesItem.{SdesItem}
use Rattle.rtcp_wire.specs.declared.packet.Chunk.{Chunk}
use Rattle.rtcp_wire.specs.declared.packet.Rtcp.{Rtcp}
use Rattle.rtcp_wire.specs.declared.packet.Rtcp.TheVariants.{Sr, Rr, Sdes, Bye, App, Nacks, Feedback, Unknown}
use Rattle.rtcp_wire.specs.Bodies.{packet_of}
use Rattle.rtcp_wire.specs.Compound.{version_of, has_padding, count_of, kind_of, size_of, final_byte, body_of}

-- The bytes begin with this packet: its header says its version, its size and its type, and its body has the form of the type.
pub record BeginsWith (bytes : List ℕ) (packet : Rtcp) : Type 0 where
  pub long : 4 ≤ length bytes
  pub version : version_of bytes ≡ 2
  pub whole : size_of bytes ≤ length bytes
  pub body : packet_of (kind_of bytes) (count_of bytes) (body_of bytes) ≡ Some packet

-- The final byte counts the padding in whole words, itself included, and they lie in the body.
abbrev pub PaddingFits : List ℕ → Type 0
PaddingFits bytes = has_padding bytes ≡ true → (0 < final_byte bytes) × (final_byte bytes % 4 ≡ 0) × (final_byte bytes ≤ size_of bytes - 4)

abbrev pub ArePackets : List ℕ → List Rtcp → Type 0
ArePackets bytes [] = ⊥
ArePackets bytes (p ∷ []) = BeginsWith bytes p × (size_of bytes ≡ length bytes) × PaddingFits bytes
ArePackets bytes (p ∷ q ∷ ps) = BeginsWith bytes p × (size_of bytes < length bytes) × (has_padding bytes ≡ false) × ArePackets (drop (size_of bytes) bytes) (q ∷ ps)

-- The datagram is these packets, of which the first has a type of RTCP.
pub record IsCompound (bytes : List ℕ) (packets : List Rtcp) : Type 0 where
  pub each : ArePackets bytes packets
  pub from : 200 ≤ kind_of bytes
  pub to : kind_of bytes ≤ 206

-- The texts of descriptions have at most 255 bytes.
abbrev pub TextFits : SdesItem → Type 0
TextFits item = length item.text ≤ 255

abbrev pub TextsFit : Chunk → Type 0
TextsFit chunk = AllByRecursion TextFits chunk.items

abbrev pub HasShortTexts : Rtcp → Type 0
HasShortTexts (Sdes chunks) = AllByRecursion TextsFit chunks
HasShortTexts (Sr ssrc seconds fraction rtp packets octets blocks rest) = Unit {0}
HasShortTexts (Rr ssrc blocks rest) = Unit {0}
HasShortTexts (Bye ssrcs reason) = Unit {0}
HasShortTexts (App subtype ssrc name rest) = Unit {0}
HasShortTexts (Nacks sender media list) = Unit {0}
HasShortTexts (Feedback kind format sender media rest) = Unit {0}
HasShortTexts (Unknown kind count rest) = Unit {0}
