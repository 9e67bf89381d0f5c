-- What becomes of a packet that a session released, and how often a pusher gave a lane something.
use Rattle.std.specs.Prelude.{ℕ, ◌&&◌, nat_eq, if◌then◌else◌, Bool, List, [], ◌∷◌, ◌++◌, length, filter, Option, Some, None, Result, Ok, Err}
use Rattle.rtp_wire.specs.Packet.{Packet as View}
use Rattle.rtp_demux.specs.declared.lanes.LaneOf.{LaneOf}
use Rattle.rtp_demux.specs.declared.lanes.LaneOf.TheVariants.{New, Known, Rate, Full}
use Rattle.rtp_demux.specs.Lanes.{Sight, sight, lane_of, lane_for}
use Rattle.rtx.specs.declared.receiver.Original.{Original}
use Rattle.rtx.specs.Restoring.{restored}
use Rattle.rtx.specs.declared.answers.RtxFault.{RtxFault}
use Rattle.rtx.specs.declared.answers.RtxFault.TheVariants as rtx
use Rattle.jitter_model.specs.declared.Packet.{Packet}
use Rattle.jitter_model.specs.declared.Origin.{Origin}
use Rattle.jitter_model.specs.declared.Origin.TheVariants as origin
use Rattle.script_lang.specs.Contents.{Contents}
use Rattle.timeline.specs.declared.line.Word.{Word}
use Rattle.timeline.specs.declared.line.Word.TheVariants as word
use Rattle.front_model.specs.Moves.{Move, Released, Reported, Asked}
use Rattle.front_model.specs.Types.{rate, is_rtx}
use Rattle.front_model.specs.Lanes.{lanes}
use Rattle.front_model.specs.Restoring.{original}

-- It is dropped with a cause, or goes to a lane.
pub data Fate : Type 0 where
  Dropped : Word → Fate
  Goes : ℕ → Origin → Packet → Fate

-- a packet as a buffer takes it
abbrev pub packet_from : View → Packet
packet_from p = record {
  seq = p.seq;
  rtp = p.timestamp;
  pt = p.pt;
  marker = p.marker;
  payload = length p.payload;
  bytes = p.bytes;
}

-- ---- a packet that came by itself: a new stream makes a lane

abbrev pub own_fate : View → LaneOf → Fate
own_fate p (New lane) = Goes lane origin.Original (packet_from p)
own_fate p (Known lane) = Goes lane origin.Original (packet_from p)
own_fate p (Rate lane kept) = Dropped word.Rate
own_fate p Full = Dropped word.Lanes

abbrev pub rated_fate : List Sight → ℕ → View → Option ℕ → Fate
rated_fate lanes session p None = Dropped word.Unmapped
rated_fate lanes session p (Some rate) = own_fate p (lane_for lanes (sight session p.ssrc rate))

-- ---- a retransmission: the lane of the original stream is there

abbrev pub restored_fate : View → LaneOf → Fate
restored_fate p (New lane) = Dropped word.RtxSsrc
restored_fate p Full = Dropped word.RtxSsrc
restored_fate p (Known lane) = Goes lane origin.Retransmission (packet_from p)
restored_fate p (Rate lane kept) = Dropped word.Rate

-- the original type has a rate in every script
abbrev pub carried_fate : List Sight → Original → View → Option ℕ → Fate
carried_fate lanes o p None = Dropped word.Unmapped
carried_fate lanes o p (Some rate) =
    restored_fate (restored o p) (lane_for lanes (sight o.session o.ssrc rate))

-- the word for what a retransmission lacks; an `rtx` line names the type of each, and definitions
-- want no memory
abbrev pub fault_word : RtxFault → Word
fault_word rtx.Short = word.RtxShort
fault_word rtx.UnknownPt = word.RtxSsrc
fault_word rtx.UnknownSsrc = word.RtxSsrc
fault_word (rtx.Ambiguous first second) = word.RtxAmbiguous
fault_word rtx.OutOfMemory = word.RtxSsrc

abbrev pub rtx_fate : Contents → List Move → View → Result Original RtxFault → Fate
rtx_fate c moves p (Err fault) = Dropped (fault_word fault)
rtx_fate c moves p (Ok o) = carried_fate (lanes c moves) o p (rate c o.session o.apt)

-- ---- either

-- what becomes of a packet of a session after these moves
abbrev pub fate : Contents → List Move → ℕ → View → Fate
fate c moves session p =
    if is_rtx c session p.pt then rtx_fate c moves p (original c moves session p)
    else rated_fate (lanes c moves) session p (rate c session p.pt)

-- ---- counts of what a pusher gives a lane: packets and sender reports

-- a pusher and a lane
abbrev pub Way : Type 0
Way = ℕ × ℕ

abbrev pub is_way : Way → Way → Bool
is_way a b = nat_eq a.0 b.0 && nat_eq a.1 b.1

abbrev pub way_to : ℕ → Option ℕ → List Way
way_to pusher None = []
way_to pusher (Some lane) = (pusher, lane) ∷ []

abbrev pub way_of : ℕ → Fate → List Way
way_of pusher (Dropped why) = []
way_of pusher (Goes lane kind p) = (pusher, lane) ∷ []

-- which way a move goes after these ones, if it goes to a lane
abbrev pub ways_of : Contents → List Move → Move → List Way
ways_of c older (Released session stamp p) = way_of session (fate c older session p)
ways_of c older (Reported session ssrc ntp rtp) =
    way_to session (lane_of (lanes c older) (session, ssrc))
ways_of c older (Asked r) = []

abbrev pub ways : Contents → List Move → List Way
ways c [] = []
ways c (m ∷ older) = ways_of c older m ++ ways c older

-- how often a pusher gave a lane something
abbrev pub count : Contents → List Move → Way → ℕ
count c moves way = length (filter (is_way way) (ways c moves))
