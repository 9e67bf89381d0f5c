-- The steps of a front: what it does when something comes.
use Rattle.std.specs.Prelude.{ℕ, ◌+◌, ◌^◌, ◌==◌, ◌&&◌, if◌then◌else◌, Bool, List, [], ◌∷◌, ◌++◌, flat_map, sum_by, Option, Some, None, option_to_list}
use Rattle.std.specs.List.{list_any}
use Rattle.rtp_wire.specs.Packet.{Packet as View}
use Rattle.rtp_demux.specs.declared.lanes.LaneOf.{LaneOf}
use Rattle.rtp_demux.specs.declared.lanes.LaneOf.TheVariants.{New, Known, Rate, Full}
use Rattle.rtp_demux.specs.declared.types.PtRoute.{PtRoute}
use Rattle.rtp_demux.specs.declared.types.PtRoute.TheVariants as route
use Rattle.rtp_demux.specs.Lanes.{sight, lane_of, lane_for}
use Rattle.jitter_model.specs.declared.Settings.{Settings}
use Rattle.script_lang.specs.Contents.{Contents}
use Rattle.script_lang.specs.Facts.{session_numbers}
use Rattle.timeline.specs.Words.{rtp_word, rtcp_word}
use Rattle.timeline.specs.declared.line.BinLine.TheVariants as told
use Rattle.timeline.specs.declared.line.Word.{Word}
use Rattle.jitter_model.specs.declared.Arrival.{Arrival}
use Rattle.jitter_model.specs.declared.Origin.{Origin}
use Rattle.jitter_model.specs.declared.Packet.{Packet as RtpPacket}
use Rattle.front_model.specs.declared.Opening.{Opening}
use Rattle.front_model.specs.declared.SenderReport.{SenderReport}
use Rattle.front_model.specs.declared.Step.{Step}
use Rattle.front_model.specs.declared.Step.TheVariants.{Tell, Open, Push, Sync}
use Rattle.front_model.specs.Events.{FrontEvent, Came, ReportsDue, Requested, records}
use Rattle.front_model.specs.Given.{Given, Rtp, Rtcp, Report}
use Rattle.front_model.specs.Notes.{Note, Holds, Drops, Releases, NewName, Synced, Stray, Left, Gone, Says}
use Rattle.front_model.specs.Records.{Holding, Nothing, BadPacket, BadCompound, Packet, Compound, holding}
use Rattle.front_model.specs.Sessions.{sessions}
use Rattle.front_model.specs.Moves.{Move, move_of, session_notes, moves}
use Rattle.front_model.specs.Types.{rate, is_rtx}
use Rattle.front_model.specs.Lanes.{route, lanes}
use Rattle.front_model.specs.Fates.{Fate, Dropped, Goes, fate, count}

-- ---- the begin of a lane

-- A session gives retransmissions of another one's packets by an `rtx` line.
abbrev pub repeats_for : Contents → ℕ → ℕ → Bool
repeats_for c session other = list_any (λ l. l.session == other && l.osession == session) c.rtx

abbrev pub pusher_bit : Contents → ℕ → ℕ → ℕ
pusher_bit c session other =
    if other == session then 2 ^ other else if repeats_for c session other then 2 ^ other else 0

-- who may push, as bits: the session, those that give retransmissions of its packets, and the
-- script
abbrev pub pushers : Contents → ℕ → ℕ
pushers c session = sum_by (pusher_bit c session) session_numbers + 256

-- how a lane of a session begins, by the script before its timed lines
abbrev pub opening_settings : Contents → ℕ → ℕ → Settings
opening_settings c session rate = record {
  rate = rate;
  mode = c.settings.mode;
  latency = c.settings.latency;
  rtx = c.settings.rtx;
  rtx_delay = c.settings.rtx_delay;
  rtx_retry = c.settings.rtx_retry;
  rtx_max = c.settings.rtx_max;
  reorder = c.settings.reorder;
  dropout = c.settings.dropout;
  misorder = c.settings.misorder;
  faststart = c.settings.faststart;
  pushers = pushers c session;
}

-- ---- what a lane is given

-- a packet, as the next that the pusher gives to the lane
abbrev pub arrival : Contents → List Move → ℕ → ℕ → ℕ → Origin → RtpPacket → Arrival
arrival c older session lane stamp kind p = record {
  pusher = session;
  k = count c older (session, lane);
  stamp = stamp;
  origin = kind;
  packet = p;
}

-- a sender report, in the same way
abbrev pub sender_report : Contents → List Move → ℕ → ℕ → ℕ → ℕ → SenderReport
sender_report c older session lane ntp rtp = record {
  pusher = session;
  k = count c older (session, lane);
  ntp_ns = ntp;
  rtp = rtp;
}

-- ---- a packet that a session released

-- a type that is first routed
abbrev pub route_steps : ℕ → ℕ → ℕ → PtRoute → List Step
route_steps time session pt (route.First rate) = Tell (told.Pt time session pt rate) ∷ []
route_steps time session pt (route.Known rate) = []
route_steps time session pt route.Unmapped = []

-- a lane of a stream
abbrev pub opening : Contents → ℕ → ℕ → ℕ → ℕ → Opening
opening c lane session ssrc rate = record {
  lane = lane;
  session = session;
  ssrc = ssrc;
  settings = opening_settings c session rate;
}

-- a stream that makes a lane
abbrev pub lane_steps : Contents → ℕ → ℕ → ℕ → ℕ → LaneOf → List Step
lane_steps c time session ssrc rate (New lane) =
    Tell (told.Lane time lane session ssrc) ∷ Open (opening c lane session ssrc rate) ∷ []
lane_steps c time session ssrc rate (Known lane) = []
lane_steps c time session ssrc rate (Rate lane kept) = []
lane_steps c time session ssrc rate Full = []

abbrev pub stream_steps : Contents → ℕ → List Move → ℕ → View → Option ℕ → List Step
stream_steps c time older session p None = []
stream_steps c time older session p (Some rate) =
    lane_steps c time session p.ssrc rate (lane_for (lanes c older) (sight session p.ssrc rate))

-- a packet that came by itself is routed, and may make a lane
abbrev pub way_steps : Contents → ℕ → List Move → ℕ → View → List Step
way_steps c time older session p =
    if is_rtx c session p.pt then []
    else route_steps time session p.pt (route c session older p.pt)
    ++ stream_steps c time older session p (rate c session p.pt)

abbrev pub fate_steps : Contents → ℕ → List Move → ℕ → ℕ → View → Fate → List Step
fate_steps c time older session stamp p (Dropped why) =
    Tell (told.Drop time session p.ssrc p.seq why) ∷ []
fate_steps c time older session stamp p (Goes lane kind q) =
    Push lane (arrival c older session lane stamp kind q) ∷ []

abbrev pub release_steps : Contents → ℕ → List Move → ℕ → ℕ → View → List Step
release_steps c time older session stamp p =
    way_steps c time older session p
    ++ fate_steps c time older session stamp p (fate c older session p)

-- ---- a sender report that a session heard

abbrev pub sync_steps : Contents → List Move → ℕ → ℕ → ℕ → Option ℕ → List Step
sync_steps c older session ntp rtp None = []
sync_steps c older session ntp rtp (Some lane) =
    Sync lane (sender_report c older session lane ntp rtp) ∷ []

abbrev pub report_steps : Contents → ℕ → List Move → ℕ → ℕ → ℕ → ℕ → List Step
report_steps c time older session ssrc ntp rtp =
    Tell (told.Sr time session ssrc ntp rtp)
    ∷ sync_steps c older session ntp rtp (lane_of (lanes c older) (session, ssrc))

-- ---- what a session tells

-- the steps of a note after these moves
abbrev pub note_steps : Contents → ℕ → List Move → ℕ → Note → List Step
note_steps c time older session (Holds k) =
    Tell (told.Hold time session k.packet.ssrc k.packet.seq) ∷ []
note_steps c time older session (Drops k why) =
    Tell (told.Drop time session k.packet.ssrc k.packet.seq why) ∷ []
note_steps c time older session (Releases k) = release_steps c time older session k.stamp k.packet
note_steps c time older session (NewName ssrc name) = Tell (told.Cname time session ssrc name) ∷ []
note_steps c time older session (Synced ssrc ntp rtp) =
    report_steps c time older session ssrc ntp rtp
note_steps c time older session (Stray ssrc) = Tell (told.RtcpStray time session ssrc) ∷ []
note_steps c time older session (Left ssrc) = Tell (told.Bye time session ssrc) ∷ []
note_steps c time older session (Gone ssrc) = Tell (told.Gone time session ssrc) ∷ []
note_steps c time older session (Says bytes) = Tell (told.Report time session bytes) ∷ []

-- one note after the other; what went on with one is there for the next
abbrev pub notes_steps : Contents → ℕ → List Move → ℕ → List Note → List Step
notes_steps c time older session [] = []
notes_steps c time older session (n ∷ more) =
    note_steps c time older session n
    ++ notes_steps c time (option_to_list (move_of session n) ++ older) session more

abbrev pub session_steps : Contents → ℕ → List FrontEvent → ℕ → Given → List Step
session_steps c time older session g =
    notes_steps c time (moves c older) session (session_notes c older session g)

-- ---- all

abbrev pub bad_steps : ℕ → ℕ → Option (Word × ℕ) → List Step
bad_steps time session None = []
bad_steps time session (Some bad) = Tell (told.RtcpBad time session bad.0 bad.1) ∷ []

abbrev pub record_steps : Contents → ℕ → List FrontEvent → Holding → List Step
record_steps c time older (Nothing why) = Tell (told.Skip time (records older + 1) why) ∷ []
record_steps c time older (BadPacket session fault) =
    Tell (told.Bad time session (rtp_word fault)) ∷ []
record_steps c time older (BadCompound session fault) = bad_steps time session (rtcp_word fault)
record_steps c time older (Packet session from p) =
    session_steps c time older session (Rtp time from p (rate c session p.pt))
record_steps c time older (Compound session packets) =
    session_steps c time older session (Rtcp time packets)

abbrev pub report_time_steps : Contents → ℕ → List FrontEvent → ℕ → List Step
report_time_steps c time older session =
    session_steps c time older session (Report time c.settings.timeout)

-- what a front does when something comes after these events; a request leads to nothing at once
abbrev pub steps : Contents → List FrontEvent → FrontEvent → List Step
steps c older (Came time r) = record_steps c time older (holding c.sessions r)
steps c older (ReportsDue time) = flat_map (report_time_steps c time older) (sessions c)
steps c older (Requested r) = []

-- all steps, the first one first
abbrev pub all_steps : Contents → List FrontEvent → List Step
all_steps c [] = []
all_steps c (e ∷ older) = all_steps c older ++ steps c older e
