-- The packet that a retransmission carries (RFC 4588, section 4), by what a receiver keeps.
use Rattle.std.specs.Prelude.{◌≡◌, ℕ, nat_eq, nat_lt, if◌then◌else◌, Bool, true, false, List, [], length, drop, find, Option, Some, None, Result, Ok, Err, IsOk}
use Rattle.std.specs.Option.{option_or}
use Rattle.rtp_units.specs.declared.shared.RtxLine.{RtxLine}
use Rattle.rtp_units.specs.declared.shared.Fid.{Fid}
use Rattle.rtp_wire.specs.Network.{number16}
use Rattle.rtp_wire.specs.Packet.{Packet, IsPacket}
use Rattle.rtp_wire.specs.Written.{spelling}
use Rattle.rtx.specs.declared.map.Map.{Map}
use Rattle.rtx.specs.declared.requests.Request.{Request}
use Rattle.rtx.specs.declared.requests.Association.{Association}
use Rattle.rtx.specs.declared.receiver.Original.{Original}
use Rattle.rtx.specs.declared.answers.Restored.{Restored}
use Rattle.rtx.specs.declared.answers.RtxFault.{RtxFault}
use Rattle.rtx.specs.declared.answers.RtxFault.TheVariants.{Short, UnknownPt, UnknownSsrc, Ambiguous, OutOfMemory}
use Rattle.rtx.specs.Pairs.{carries, original_of}
use Rattle.rtx.specs.Requests.{oldest, oldest_other, association, associated, associations_next}

-- what a receiver was made with
pub record Setting : Type 0 where
  pub lines : List RtxLine
  pub fids : List Fid
  -- streams are found by requests
  pub by_request : Bool

abbrev pub setting : List RtxLine → List Fid → Bool → Setting
setting lines fids by_request = record { lines = lines; fids = fids; by_request = by_request }

abbrev pub setting_of : Map → Bool → Setting
setting_of map by_request = setting map.lines.items map.fids.items by_request

-- what a receiver keeps: its setting, requests, the oldest first, and associations
pub record Receiving : Type 0 where
  pub setting : Setting
  pub requests : List Request
  pub associations : List Association

abbrev pub receiving : Setting → List Request → List Association → Receiving
receiving s requests associations = record { setting = s; requests = requests; associations = associations }

abbrev pub with_requests : Receiving → List Request → Receiving
with_requests r requests = record r { requests = requests }

-- ---- what a packet carries

abbrev pub original : RtxLine → Packet → ℕ → Bool → Original
original l p ssrc by_request = record { session = l.osession; apt = l.apt; ssrc = ssrc; seq = number16 p.payload 0; by_request = by_request }

-- The original stream, where no request is needed to know it: in another session it is the packet's own SSRC, in the same
-- one that of a pair, or else that of an association.
abbrev pub stream_of : Receiving → RtxLine → ℕ → Option ℕ
stream_of r l rtx_ssrc =
    if nat_eq l.osession l.session then option_or (original_of r.setting.fids l.session rtx_ssrc) (associated r.associations l.session rtx_ssrc)
    else Some rtx_ssrc

-- One stream asked for the number, and no other.
abbrev pub by_only_request : RtxLine → Packet → ℕ → Option ℕ → Result Original RtxFault
by_only_request l p first None = Ok (original l p first true)
by_only_request l p first (Some second) = Err (Ambiguous first second)

abbrev pub by_oldest_request : Receiving → ℕ → RtxLine → Packet → Option ℕ → Result Original RtxFault
by_oldest_request r session l p None = Err UnknownSsrc
by_oldest_request r session l p (Some first) = by_only_request l p first (oldest_other r.requests session (number16 p.payload 0) first)

abbrev pub by_stream : Receiving → ℕ → RtxLine → Packet → Option ℕ → Result Original RtxFault
by_stream r session l p (Some ssrc) = Ok (original l p ssrc false)
by_stream r session l p None =
    if r.setting.by_request then by_oldest_request r session l p (oldest r.requests session (number16 p.payload 0)) else Err UnknownSsrc

abbrev pub by_line : Receiving → ℕ → Packet → Option RtxLine → Result Original RtxFault
by_line r session p None = Err UnknownPt
by_line r session p (Some l) = by_stream r session l p (stream_of r l p.ssrc)

-- what a packet of a session carries, or the first test that it fails
abbrev pub found : Receiving → ℕ → Packet → Result Original RtxFault
found r session p =
    if nat_lt (length p.payload) 2 then Err Short
    else by_line r session p (find (carries session p.pt) r.setting.lines)

-- ---- the restored packet

-- the packet that is carried: its number, type and stream, the payload behind the number, no padding, and all else as it came
abbrev pub restored_packet : Original → Packet → List ℕ → Packet
restored_packet o p bytes = record {
  marker = p.marker;
  pt = o.apt;
  seq = o.seq;
  timestamp = p.timestamp;
  ssrc = o.ssrc;
  csrcs = p.csrcs;
  extension = p.extension;
  payload = drop 2 p.payload;
  padding = 0;
  bytes = bytes;
}

-- its bytes
abbrev pub restored_spelling : Original → Packet → List ℕ
restored_spelling o p = spelling (restored_packet o p [])

-- the packet that is carried, with its bytes
abbrev pub restored : Original → Packet → Packet
restored o p = restored_packet o p (restored_spelling o p)

pub record IsRestored (o : Original) (p : Packet) (x : Restored) : Type 0 where
  pub session : x.session ≡ o.session
  pub ssrc : x.ssrc ≡ o.ssrc
  pub seq : x.seq ≡ o.seq
  pub bytes : x.bytes ≡ restored_spelling o p
  pub packet : IsPacket (restored_packet o p x.bytes)

-- A stream that was found by a request is associated.
abbrev pub associations_after : List Association → ℕ → Packet → Original → List Association
associations_after associations session p o = if o.by_request then associations_next associations (association session p.ssrc o.ssrc) else associations

abbrev pub associated_with : Receiving → ℕ → Packet → Original → Receiving
associated_with r session p o = record r { associations = associations_after r.associations session p o }

-- What restoring a packet answered and left. Each fault is the first test that fails, and leaves all as it was.
abbrev pub Restores : Receiving → ℕ → Packet → Result Restored RtxFault → Receiving → Type 0
Restores r session p (Ok x) new = (o : Original) × (found r session p ≡ Ok o) × IsRestored o p x × (new ≡ associated_with r session p o)
Restores r session p (Err Short) new = (found r session p ≡ Err Short) × (new ≡ r)
Restores r session p (Err UnknownPt) new = (found r session p ≡ Err UnknownPt) × (new ≡ r)
Restores r session p (Err UnknownSsrc) new = (found r session p ≡ Err UnknownSsrc) × (new ≡ r)
Restores r session p (Err (Ambiguous first second)) new = (found r session p ≡ Err (Ambiguous first second)) × (new ≡ r)
Restores r session p (Err OutOfMemory) new = IsOk (found r session p) × (new ≡ r)

-- ---- the same as functions

abbrev pub restored_of : Packet → Result Original RtxFault → Result Restored RtxFault
restored_of p (Ok o) =
    Ok (record { session = o.session; ssrc = o.ssrc; seq = o.seq; bytes = restored_spelling o p })
restored_of p (Err fault) = Err fault

-- what restoring a packet of a session answers
abbrev pub restoring : Receiving → ℕ → Packet → Result Restored RtxFault
restoring r session p = restored_of p (found r session p)

abbrev pub restored_next_by : Receiving → ℕ → Packet → Result Original RtxFault → Receiving
restored_next_by r session p (Ok o) = associated_with r session p o
restored_next_by r session p (Err fault) = r

-- the receiver after it
abbrev pub restored_next : Receiving → ℕ → Packet → Receiving
restored_next r session p = restored_next_by r session p (found r session p)

-- an answer but want of memory
abbrev pub IsAnswer : Result Restored RtxFault → Type 0
IsAnswer (Ok x) = Unit {0}
IsAnswer (Err Short) = Unit {0}
IsAnswer (Err UnknownPt) = Unit {0}
IsAnswer (Err UnknownSsrc) = Unit {0}
IsAnswer (Err (Ambiguous first second)) = Unit {0}
IsAnswer (Err OutOfMemory) = ⊥

-- A receiver that was not refused memory answered and became what the functions say.
abbrev pub IsOneRestoring : Type 0
IsOneRestoring =
    (r new : Receiving) (session : ℕ) (p : Packet) (answer : Result Restored RtxFault)
    → Restores r session p answer new → IsAnswer answer
    → (answer ≡ restoring r session p) × (new ≡ restored_next r session p)
