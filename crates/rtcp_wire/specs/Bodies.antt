-- The bodies of packets, by the places of their fields (RFC 3550, section 6; RFC 4585, section 6).
use Rattle.std.specs.Prelude.{ℕ, ℤ, ◌+◌, ◌-◌, ◌*◌, ◌/◌, ◌==◌, nat_lt, if◌then◌else◌, List, [], ◌∷◌, map, length, take, drop, slice_index, Option, Some, None, option_map}
use Rattle.std.specs.List.{range_with_len}
use Rattle.byteorder.specs.Endian.{twos_complement}
use Rattle.rtp_wire.specs.Network.{number16, number32}
use Rattle.rtcp_wire.specs.declared.block.ReportBlock.{ReportBlock}
use Rattle.rtcp_wire.specs.declared.packet.Nack.{Nack}
use Rattle.rtcp_wire.specs.declared.packet.Rtcp.{Rtcp}
use Rattle.rtcp_wire.specs.declared.packet.Rtcp.TheVariants.{Sr, Rr, Sdes, Bye, App, Nacks, Feedback, Unknown}
use Rattle.rtcp_wire.specs.Sdes.{chunks_at}

abbrev pub number24 : List ℕ → ℕ → ℕ
number24 bytes at = slice_index bytes at * 65536 + slice_index bytes (at + 1) * 256 + slice_index bytes (at + 2)

-- the same in two's complement
abbrev pub signed24 : List ℕ → ℕ → ℤ
signed24 bytes at = twos_complement 3 (number24 bytes at)

-- the block of 24 bytes from this place on
abbrev pub block_at : List ℕ → ℕ → ReportBlock
block_at bytes at = record {
  ssrc = number32 bytes at;
  fraction = slice_index bytes (at + 4);
  lost = signed24 bytes (at + 5);
  greatest = number32 bytes (at + 8);
  jitter = number32 bytes (at + 12);
  lsr = number32 bytes (at + 16);
  dlsr = number32 bytes (at + 20);
}

abbrev pub blocks_at : List ℕ → ℕ → ℕ → List ReportBlock
blocks_at bytes at count = map (λ k. block_at bytes (at + 24 * k)) (range_with_len 0 count)

-- so many numbers of 32 bits
abbrev pub numbers_at : List ℕ → ℕ → List ℕ
numbers_at bytes count = map (λ k. number32 bytes (4 * k)) (range_with_len 0 count)

-- the entry of this number, where entries begin behind the two SSRCs
abbrev pub entry_at : List ℕ → ℕ → Nack
entry_at bytes k = record { pid = number16 bytes (8 + 4 * k); blp = number16 bytes (10 + 4 * k) }

abbrev pub entries_at : List ℕ → ℕ → List Nack
entries_at bytes count = map (entry_at bytes) (range_with_len 0 count)

-- Where bytes follow the sources, a length byte and that many bytes are the reason.
abbrev pub reason_at : List ℕ → Option (Option (List ℕ))
reason_at [] = Some None
reason_at (len ∷ rest) = if nat_lt (length rest) len then None else Some (Some (take len rest))

abbrev pub sr_of : ℕ → List ℕ → Option Rtcp
sr_of count b =
    if nat_lt (length b) (24 + 24 * count) then None
    else Some (Sr (number32 b 0) (number32 b 4) (number32 b 8) (number32 b 12) (number32 b 16) (number32 b 20)
    (record { items = blocks_at b 24 count }) (drop (24 + 24 * count) b))

abbrev pub rr_of : ℕ → List ℕ → Option Rtcp
rr_of count b =
    if nat_lt (length b) (4 + 24 * count) then None
    else Some (Rr (number32 b 0) (record { items = blocks_at b 4 count }) (drop (4 + 24 * count) b))

abbrev pub sdes_of : ℕ → List ℕ → Option Rtcp
sdes_of count b = option_map Sdes (chunks_at count b)

abbrev pub bye_of : ℕ → List ℕ → Option Rtcp
bye_of count b =
    if nat_lt (length b) (4 * count) then None
    else option_map (λ reason. Bye (numbers_at b count) reason) (reason_at (drop (4 * count) b))

abbrev pub app_of : ℕ → List ℕ → Option Rtcp
app_of count b = if nat_lt (length b) 8 then None else Some (App count (number32 b 0) (take 4 (drop 4 b)) (drop 8 b))

abbrev pub nacks_of : List ℕ → Option Rtcp
nacks_of b =
    if nat_lt (length b) 8 then None
    else Some (Nacks (number32 b 0) (number32 b 4) (entries_at b ((length b - 8) / 4)))

abbrev pub feedback_of : ℕ → ℕ → List ℕ → Option Rtcp
feedback_of kind count b =
    if nat_lt (length b) 8 then None else Some (Feedback kind count (number32 b 0) (number32 b 4) (drop 8 b))

-- the packet of this type, count and body, if the body has the form of the type
unfoldable pub packet_of : ℕ → ℕ → List ℕ → Option Rtcp
packet_of kind count b =
    if kind == 200 then sr_of count b
    else if kind == 201 then rr_of count b
    else if kind == 202 then sdes_of count b
    else if kind == 203 then bye_of count b
    else if kind == 204 then app_of count b
    else if kind == 205 then (if count == 1 then nacks_of b else feedback_of kind count b)
    else if kind == 206 then feedback_of kind count b
    else Some (Unknown kind count b)
