-- What a session is given, and what that asks of its table of sources. Lists have the newest first.
use Rattle.std.specs.Prelude.{ℕ, nat_eq, Bool, List, [], ◌∷◌, ◌++◌, map, reverse, flat_map, find, Option, option_map, option_to_list}
use Rattle.std.specs.List.{list_any}
use Rattle.rtp_units.specs.declared.shared.Address.{Address}
use Rattle.rtp_wire.specs.Packet.{Packet as View}
use Rattle.rtcp_wire.specs.declared.packet.Rtcp.{Rtcp as RtcpPacket}
use Rattle.rtcp_wire.specs.declared.packet.Rtcp.TheVariants as packet
use Rattle.rtcp_wire.specs.declared.packet.Chunk.{Chunk}
use Rattle.rtcp_wire.specs.declared.packet.SdesItem.{SdesItem}
use Rattle.source_table.specs.Sources.{report_next, left_next}
use Rattle.source_table.specs.Table.{Table, empty, packet_of, changed, expired, all_reported}
use Rattle.source_table.specs.Answers.{heard_next, name_next}

-- what a session was made with: the program's own SSRC, the length of probation, and the SSRCs that
-- need none
pub record Setting : Type 0 where
  pub own : ℕ
  pub probation : ℕ
  pub quick : List ℕ

-- A packet of RTP at a time, from an address, with the clock rate of its type, where there is one;
-- the packets of a compound of RTCP at a time; a report time, with the silence after which a source
-- is removed.
pub data Given : Type 0 where
  Rtp : ℕ → Address → View → Option ℕ → Given
  Rtcp : ℕ → List RtcpPacket → Given
  Report : ℕ → ℕ → Given

-- A call on the table: a packet of RTP, a name, a sender report, a BYE, and a report time.
pub data Ask : Type 0 where
  Hears : ℕ → Address → View → Option ℕ → Ask
  Names : ℕ → List ℕ → Ask
  Reports : ℕ → ℕ → ℕ → ℕ → ℕ → Ask
  Leaves : ℕ → Ask
  Closes : ℕ → ℕ → Ask

-- ---- a compound: its names come first, then its packets in order

-- the item is a CNAME
abbrev pub is_cname : SdesItem → Bool
is_cname item = nat_eq item.kind 1

-- Of a chunk the first CNAME counts.
abbrev pub chunk_asks : Chunk → List Ask
chunk_asks chunk =
    option_to_list (option_map (λ item. Names chunk.ssrc item.text) (find is_cname chunk.items))

abbrev pub name_asks : RtcpPacket → List Ask
name_asks (packet.Sdes chunks) = flat_map chunk_asks chunks
name_asks p = []

abbrev pub other_asks : ℕ → RtcpPacket → List Ask
other_asks now (packet.Sr ssrc seconds fraction rtp packets octets blocks rest) =
    Reports now ssrc seconds fraction rtp ∷ []
other_asks now (packet.Bye ssrcs reason) = map Leaves ssrcs
other_asks now p = []

-- what is asked of the table, the first call first
abbrev pub asks_of : Given → List Ask
asks_of (Rtp now from view rate) = Hears now from view rate ∷ []
asks_of (Rtcp now packets) = flat_map name_asks packets ++ flat_map (other_asks now) packets
asks_of (Report now timeout) = Closes now timeout ∷ []

-- all that was asked of the table
abbrev pub asks : List Given → List Ask
asks [] = []
asks (g ∷ older) = reverse (asks_of g) ++ asks older

-- ---- the table

-- The source needs no probation.
abbrev pub is_quick : Setting → ℕ → Bool
is_quick s ssrc = list_any (nat_eq ssrc) s.quick

abbrev pub table_next : Setting → Table → Ask → Table
table_next s t (Hears now from view rate) =
    heard_next t from view.ssrc (packet_of t now view rate (is_quick s view.ssrc))
table_next s t (Names ssrc text) = name_next t ssrc text
table_next s t (Reports now ssrc seconds fraction rtp) =
    changed t ssrc (λ x. report_next x now seconds fraction)
table_next s t (Leaves ssrc) = changed t ssrc left_next
table_next s t (Closes now timeout) = all_reported (expired t now timeout)

-- the table that these calls leave of an empty one
abbrev pub table : Setting → List Ask → Table
table s [] = empty s.own s.probation
table s (ask ∷ before) = table_next s (table s before) ask
