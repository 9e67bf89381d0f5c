-- What a history keeps, and the retransmission of a packet (RFC 4588, section 4).
use Rattle.std.specs.Prelude.{ℕ, ◌&&◌, nat_eq, if◌then◌else◌, Bool, List, [], ◌∷◌, ◌++◌, find, take, Option, Some, None, option_map}
use Rattle.circular_buffer.specs.Buffer.{Buffer, buffer}
use Rattle.byteorder.specs.Endian.{big_bytes}
use Rattle.rtp_units.specs.declared.shared.RtxLine.{RtxLine}
use Rattle.rtp_units.specs.declared.shared.Fid.{Fid}
use Rattle.rtp_wire.specs.Packet.{Packet}
use Rattle.rtp_wire.specs.Written.{spelling}
use Rattle.rtx.specs.declared.map.Map.{Map}
use Rattle.rtx.specs.declared.outlet.Outlet.{Outlet}
use Rattle.rtx.specs.Pairs.{repeats, retransmission_of}

-- a session and an SSRC
abbrev pub Stream : Type 0
Stream = ℕ × ℕ

abbrev pub is_stream : Stream → Stream → Bool
is_stream a b = nat_eq a.0 b.0 && nat_eq a.1 b.1

-- what a history was made with: how many packets of a stream it remembers, and its map
pub record Setting : Type 0 where
  pub per_stream : ℕ
  pub lines : List RtxLine
  pub fids : List Fid

abbrev pub setting : ℕ → List RtxLine → List Fid → Setting
setting per_stream lines fids = record { per_stream = per_stream; lines = lines; fids = fids }

abbrev pub setting_of : ℕ → Map → Setting
setting_of per_stream map = setting per_stream map.lines.items map.fids.items

-- what a history keeps: its setting, the streams with their last packets, the latest first, and the next number of retransmission streams
pub record Sending : Type 0 where
  pub setting : Setting
  pub streams : List (Stream × Buffer Packet)
  pub numbers : List (Stream × ℕ)

-- of packets, the latest first, the latest with this number
abbrev pub latest_in : List Packet → ℕ → Option Packet
latest_in packets seq = find (λ p. nat_eq p.seq seq) packets

-- a stream's packets with one more
abbrev pub pushed : Packet → Buffer Packet → Buffer Packet
pushed p b = buffer (take b.capacity (p ∷ b.items)) b.capacity

-- ---- where a packet is retransmitted

abbrev pub outlet : RtxLine → ℕ → Outlet
outlet l ssrc = record { session = l.session; pt = l.pt; ssrc = ssrc }

-- In another session a stream keeps its SSRC; in the same one it is repeated in the stream that it is paired with.
abbrev pub rtx_ssrc_of : List Fid → RtxLine → ℕ → ℕ → Option ℕ
rtx_ssrc_of fids l session ssrc = if nat_eq l.session session then retransmission_of fids session ssrc else Some ssrc

abbrev pub outlet_by : List Fid → ℕ → ℕ → Option RtxLine → Option Outlet
outlet_by fids session ssrc None = None
outlet_by fids session ssrc (Some l) = option_map (outlet l) (rtx_ssrc_of fids l session ssrc)

-- the outlet of packets of this stream and type
abbrev pub outlet_of : List RtxLine → List Fid → ℕ → ℕ → ℕ → Option Outlet
outlet_of lines fids session ssrc pt = outlet_by fids session ssrc (find (repeats session pt) lines)

-- ---- the retransmission

-- the packet's number in front of its payload, the outlet's type, SSRC and own number, no padding, and all else as it was
abbrev pub retransmission_packet : Outlet → ℕ → Packet → List ℕ → Packet
retransmission_packet o number p bytes = record {
  marker = p.marker;
  pt = o.pt;
  seq = number;
  timestamp = p.timestamp;
  ssrc = o.ssrc;
  csrcs = p.csrcs;
  extension = p.extension;
  payload = big_bytes 2 p.seq ++ p.payload;
  padding = 0;
  bytes = bytes;
}

-- its bytes
abbrev pub retransmission_spelling : Outlet → ℕ → Packet → List ℕ
retransmission_spelling o number p = spelling (retransmission_packet o number p [])
