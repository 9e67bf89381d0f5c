-- The bytes of packets, and which packets have them.
use Rattle.std.specs.Prelude.{◌≡◌, ◌<◌, ◌≤◌, ℕ, ◌+◌, ◌-◌, ◌/◌, ◌%◌, ◌^◌, pos, negsuc, ◌≤ℤ◌, List, [], ◌∷◌, ◌++◌, length, replicate, slice_index, Option, Some, None, IfSome, ◌⊎◌}
use Rattle.std.specs.List.{flat_map, AllByRecursion}
use Rattle.std.specs.Int.{w64}
use Rattle.byteorder.specs.Endian.{big_bytes, low_bytes}
use Rattle.rtcp_wire.specs.declared.block.ReportBlock.{ReportBlock}
use Rattle.rtcp_wire.specs.declared.packet.SdesItem.{SdesItem}
use Rattle.rtcp_wire.specs.declared.packet.Chunk.{Chunk}
use Rattle.rtcp_wire.specs.declared.packet.Nack.{Nack}
use Rattle.rtcp_wire.specs.declared.packet.Rtcp.{Rtcp}
use Rattle.rtcp_wire.specs.declared.packet.Rtcp.TheVariants.{Sr, Rr, Sdes, Bye, App, Nacks, Feedback, Unknown}
use Rattle.rtcp_wire.specs.Sdes.{gap}

-- ---- the pieces of bodies

abbrev pub numbers_bytes : List ℕ → List ℕ
numbers_bytes numbers = flat_map (big_bytes 4) numbers

abbrev pub block_bytes : ReportBlock → List ℕ
block_bytes b =
    big_bytes 4 b.ssrc ++ (b.fraction ∷ []) ++ big_bytes 3 (low_bytes w64 3 b.lost)
    ++ numbers_bytes (b.greatest ∷ b.jitter ∷ b.lsr ∷ b.dlsr ∷ [])

abbrev pub item_bytes : SdesItem → List ℕ
item_bytes item = item.kind ∷ length item.text ∷ item.text

abbrev pub items_bytes : List SdesItem → List ℕ
items_bytes items = flat_map item_bytes items

-- one to four zero bytes end a chunk, at a multiple of 4
abbrev pub closed : List ℕ → List ℕ
closed front = front ++ replicate (4 - length front % 4) 0

abbrev pub chunk_bytes : Chunk → List ℕ
chunk_bytes chunk = closed (big_bytes 4 chunk.ssrc ++ items_bytes chunk.items)

-- a reason is filled to a whole word with zeros
abbrev pub reason_bytes : Option (List ℕ) → List ℕ
reason_bytes None = []
reason_bytes (Some text) = (length text ∷ text) ++ replicate (gap (1 + length text)) 0

abbrev pub entry_bytes : Nack → List ℕ
entry_bytes entry = big_bytes 2 entry.pid ++ big_bytes 2 entry.blp

-- ---- packets

abbrev pub body_bytes : Rtcp → List ℕ
body_bytes (Sr ssrc seconds fraction rtp packets octets blocks rest) =
    numbers_bytes (ssrc ∷ seconds ∷ fraction ∷ rtp ∷ packets ∷ octets ∷ []) ++ flat_map block_bytes blocks.items ++ rest
body_bytes (Rr ssrc blocks rest) = numbers_bytes (ssrc ∷ []) ++ flat_map block_bytes blocks.items ++ rest
body_bytes (Sdes chunks) = flat_map chunk_bytes chunks
body_bytes (Bye ssrcs reason) = numbers_bytes ssrcs ++ reason_bytes reason
body_bytes (App subtype ssrc name rest) = numbers_bytes (ssrc ∷ []) ++ name ++ rest
body_bytes (Nacks sender media list) = numbers_bytes (sender ∷ media ∷ []) ++ flat_map entry_bytes list
body_bytes (Feedback kind format sender media rest) = numbers_bytes (sender ∷ media ∷ []) ++ rest
body_bytes (Unknown kind count rest) = rest

abbrev pub kind_byte : Rtcp → ℕ
kind_byte (Sr ssrc seconds fraction rtp packets octets blocks rest) = 200
kind_byte (Rr ssrc blocks rest) = 201
kind_byte (Sdes chunks) = 202
kind_byte (Bye ssrcs reason) = 203
kind_byte (App subtype ssrc name rest) = 204
kind_byte (Nacks sender media list) = 205
kind_byte (Feedback kind format sender media rest) = kind
kind_byte (Unknown kind count rest) = kind

abbrev pub count_bits : Rtcp → ℕ
count_bits (Sr ssrc seconds fraction rtp packets octets blocks rest) = length blocks.items
count_bits (Rr ssrc blocks rest) = length blocks.items
count_bits (Sdes chunks) = length chunks
count_bits (Bye ssrcs reason) = length ssrcs
count_bits (App subtype ssrc name rest) = subtype
count_bits (Nacks sender media list) = 1
count_bits (Feedback kind format sender media rest) = format
count_bits (Unknown kind count rest) = count

-- version 2 and the count, the type, the length in words less one, and the body
abbrev pub packet_bytes : Rtcp → List ℕ
packet_bytes p = ((128 + count_bits p) ∷ kind_byte p ∷ []) ++ big_bytes 2 (length (body_bytes p) / 4) ++ body_bytes p

abbrev pub compound_bytes : List Rtcp → List ℕ
compound_bytes packets = flat_map packet_bytes packets

-- ---- what can be written

abbrev pub IsWords : List ℕ → Type 0
IsWords bytes = length bytes % 4 ≡ 0

-- the cumulative loss has 24 bits
abbrev pub LossFits : ReportBlock → Type 0
LossFits b = (negsuc 8388607 ≤ℤ b.lost) × (b.lost ≤ℤ pos 8388607)

-- a type of 0 would end the items
abbrev pub ItemFits : SdesItem → Type 0
ItemFits item = (0 < item.kind) × (length item.text ≤ 255)

abbrev pub ChunkFits : Chunk → Type 0
ChunkFits chunk = AllByRecursion ItemFits chunk.items

abbrev pub BodyFits : Rtcp → Type 0
BodyFits (Sr ssrc seconds fraction rtp packets octets blocks rest) = AllByRecursion LossFits blocks.items × IsWords rest
BodyFits (Rr ssrc blocks rest) = AllByRecursion LossFits blocks.items × IsWords rest
BodyFits (Sdes chunks) = (length chunks ≤ 31) × AllByRecursion ChunkFits chunks
BodyFits (Bye ssrcs reason) = (length ssrcs ≤ 31) × IfSome reason (λ text. length text ≤ 255)
BodyFits (App subtype ssrc name rest) = (subtype ≤ 31) × IsWords rest
BodyFits (Nacks sender media list) = Unit {0}
BodyFits (Feedback kind format sender media rest) = (205 ≤ kind) × (kind ≤ 206) × (kind ≡ 205 → format ≡ 1 → ⊥) × (format ≤ 31) × IsWords rest
BodyFits (Unknown kind count rest) = ((kind < 200) ⊎ (206 < kind)) × (count ≤ 31) × IsWords rest

-- a packet whose body has at most 65,535 words
pub record PacketFits (p : Rtcp) : Type 0 where
  pub body : BodyFits p
  pub words : length (body_bytes p) ≤ 262140

-- a compound begins with a type from 200 to 206
abbrev pub Begins : List Rtcp → Type 0
Begins [] = ⊥
Begins (p ∷ ps) = (200 ≤ kind_byte p) × (kind_byte p ≤ 206)

pub record IsWritable (packets : List Rtcp) : Type 0 where
  pub begins : Begins packets
  pub each : AllByRecursion PacketFits packets

-- ---- ranges that each value of the types has

abbrev pub AreSmall : List ℕ → Type 0
AreSmall numbers = (k : ℕ) → slice_index numbers k < 2 ^ 32

pub record BlockInRange (b : ReportBlock) : Type 0 where
  pub ssrc : b.ssrc < 2 ^ 32
  pub others : AreSmall (b.greatest ∷ b.jitter ∷ b.lsr ∷ b.dlsr ∷ [])

pub record EntryInRange (entry : Nack) : Type 0 where
  pub pid : entry.pid < 2 ^ 16
  pub blp : entry.blp < 2 ^ 16

abbrev pub ChunkInRange : Chunk → Type 0
ChunkInRange chunk = chunk.ssrc < 2 ^ 32

abbrev pub InRange : Rtcp → Type 0
InRange (Sr ssrc seconds fraction rtp packets octets blocks rest) =
    AreSmall (ssrc ∷ seconds ∷ fraction ∷ rtp ∷ packets ∷ octets ∷ []) × AllByRecursion BlockInRange blocks.items × (length blocks.items ≤ 31)
InRange (Rr ssrc blocks rest) = AreSmall (ssrc ∷ []) × AllByRecursion BlockInRange blocks.items × (length blocks.items ≤ 31)
InRange (Sdes chunks) = AllByRecursion ChunkInRange chunks
InRange (Bye ssrcs reason) = AreSmall ssrcs
InRange (App subtype ssrc name rest) = AreSmall (ssrc ∷ []) × (length name ≡ 4)
InRange (Nacks sender media list) = AreSmall (sender ∷ media ∷ []) × AllByRecursion EntryInRange list
InRange (Feedback kind format sender media rest) = AreSmall (sender ∷ media ∷ [])
InRange (Unknown kind count rest) = Unit {0}
