-- What a front does on examples that were worked out by hand, from bytes to steps. Times are in milliseconds where `ms` stands.
use Rattle.std.specs.Prelude.{ℕ, zero, suc, ◌+◌, ◌*◌, ◌/◌, ◌%◌, ◌≡◌, ◌++◌, true, false, List, [], ◌∷◌, length, map, reverse, replicate, pos, None, Some, Ok, Err, refl}
use Rattle.rtp_units.specs.declared.Mode.TheVariants.{Plain}
use Rattle.rtp_units.specs.declared.shared.Address.{Address}
use Rattle.rtp_units.specs.declared.shared.Fid.{Fid}
use Rattle.rtp_units.specs.declared.shared.RtxLine.{RtxLine}
use Rattle.pcap_file.specs.Capture.{Record}
use Rattle.pcap_file.specs.Numbers.{number_at}
use Rattle.pcap_file.specs.Datagrams.{udp, ipv4, frame, datagram_of}
use Rattle.rtp_wire.specs.Packet.{first_fault}
use Rattle.rtcp_wire.specs.Sdes.{items_at, chunk_at, chunks_at}
use Rattle.rtcp_wire.specs.Bodies.{packet_of}
use Rattle.rtcp_wire.specs.Compound.{header_fault, headers_fault, packets_at, compound_of}
use Rattle.rtcp_wire.specs.declared.block.ReportBlock.{ReportBlock}
use Rattle.source_table.specs.declared.source.Source.{Source}
use Rattle.source_table.specs.declared.source.Packet.{Packet}
use Rattle.source_table.specs.declared.source.Heard.TheVariants.{Waiting}
use Rattle.source_table.specs.declared.answers.Refuse.TheVariants.{LimitSources}
use Rattle.source_table.specs.Sources.{fresh}
use Rattle.source_table.specs.Table.{Table, empty}
use Rattle.ntp_sync.specs.declared.sync.LaneReport.{LaneReport}
use Rattle.ntp_sync.specs.Found.{least_in, offsets_in}
use Rattle.ntp_sync.specs.Offsets.{delta_of, report_of}
use Rattle.rtp_demux.specs.declared.lanes.LaneOf.TheVariants as lane
use Rattle.rtp_demux.specs.Lanes.{Sight, sight, lane_for}
use Rattle.script_lang.specs.declared.script.SessionLine.{SessionLine}
use Rattle.script_lang.specs.declared.script.PtLine.{PtLine}
use Rattle.script_lang.specs.Contents.{Contents}
use Rattle.jitter_model.specs.declared.Origin.{Origin}
use Rattle.jitter_model.specs.declared.Origin.TheVariants.{Original, Retransmission}
use Rattle.timeline.specs.declared.line.BinLine.{BinLine}
use Rattle.timeline.specs.declared.line.BinLine.TheVariants as told
use Rattle.timeline.specs.declared.line.Word.{Word}
use Rattle.timeline.specs.declared.line.Word.TheVariants as word
use Rattle.front_model.specs.declared.Step.{Step}
use Rattle.front_model.specs.declared.Step.TheVariants as step
use Rattle.front_model.specs.Events.{FrontEvent, Came, ReportsDue, Requested}
use Rattle.front_model.specs.Reports.{parts}
use Rattle.source_table.specs.Answers.{heard}
use Rattle.front_model.specs.Sessions.{cname}
use Rattle.front_model.specs.Steps.{steps, all_steps}
use Rattle.front_model.specs.Plan.{captured}

abbrev ms : ℕ → ℕ
ms t = t * 1000000

-- ---- scripts

abbrev script : List SessionLine → List PtLine → List RtxLine → List Fid → ℕ → Contents
script sessions pts rtx fids probation = record {
  sessions = sessions;
  pts = pts;
  rtx = rtx;
  fids = fids;
  items = [];
  settings = record {
    latency = ms 100;
    mode = Plain;
    rtx = true;
    rtx_delay = ms 20;
    rtx_retry = ms 40;
    rtx_max = 3;
    reorder = 3;
    dropout = 3000;
    misorder = 100;
    probation = probation;
    faststart = 0;
    report = ms 1000;
    timeout = ms 500;
    history = 256;
    ssrc = 1;
  };
}

-- session 0 on the ports 5004 and 5005, session 1 on 5006 for both
abbrev two_sessions : List SessionLine
two_sessions = record { session = 0; rtp = 5004; rtcp = 5005 } ∷ record { session = 1; rtp = 5006; rtcp = 5006 } ∷ []

-- in session 0 type 96 at 90 kHz and type 98 at 8 kHz, in session 1 type 96 at 48 kHz
abbrev types : List PtLine
types = record { session = 0; pt = 96; rate = 90000 } ∷ record { session = 0; pt = 98; rate = 8000 } ∷ record { session = 1; pt = 96; rate = 48000 } ∷ []

-- type 97 of either session carries retransmissions of type 96 of session 0
abbrev repeats : List RtxLine
repeats = record { session = 0; pt = 97; osession = 0; apt = 96 } ∷ record { session = 1; pt = 97; osession = 0; apt = 96 } ∷ []

-- 9 repeats 7
abbrev pairs : List Fid
pairs = record { session = 0; ssrc = 7; rtx_ssrc = 9 } ∷ []

-- with this probation
abbrev usual : ℕ → Contents
usual probation = script two_sessions types repeats [] probation

abbrev paired : Contents
paired = script two_sessions types repeats pairs 2

-- ---- records

abbrev two : ℕ → List ℕ
two n = n / 256 % 256 ∷ n % 256 ∷ []

abbrev four : ℕ → List ℕ
four n = two (n / 65536) ++ two n

-- an IPv4 packet from 10.0.0.1 and this port to 10.0.0.2
abbrev sent : ℕ → ℕ → ℕ → List ℕ → FrontEvent
sent time from to payload =
    Came (ms time) (record {
      link = 228;
      offset = 24;
      stamp = ms time;
      original = 28 + length payload;
      bytes =
          0x45 ∷ 0 ∷ two (28 + length payload) ++ 0 ∷ 0 ∷ 0 ∷ 0 ∷ 64 ∷ 17 ∷ 0 ∷ 0 ∷ 10 ∷ 0 ∷ 0 ∷ 1 ∷ 10 ∷ 0 ∷ 0 ∷ 2
          ∷ two from ++ two to ++ two (8 + length payload) ++ 0 ∷ 0 ∷ payload;
    })

-- a packet of RTP: its type, its SSRC, its number and its payload
abbrev rtp : ℕ → ℕ → ℕ → List ℕ → List ℕ
rtp pt ssrc seq payload = 0x80 ∷ pt ∷ two seq ++ four (90 * seq) ++ four ssrc ++ payload

-- a packet of type 96 in session 0
abbrev packet : ℕ → ℕ → ℕ → FrontEvent
packet time ssrc seq = sent time 40000 5004 (rtp 96 ssrc seq (5 ∷ 6 ∷ []))

-- a retransmission of a number, by an SSRC
abbrev again : ℕ → ℕ → ℕ → FrontEvent
again time ssrc seq = sent time 40000 5004 (rtp 97 ssrc 0 (two seq ++ 5 ∷ 6 ∷ []))

-- a sender report, a name of one byte, and a BYE
abbrev sr : ℕ → ℕ → List ℕ
sr ssrc seconds = 0x80 ∷ 200 ∷ 0 ∷ 6 ∷ four ssrc ++ four seconds ++ four 0 ++ four 900 ++ four 1 ++ four 4

abbrev name : ℕ → ℕ → List ℕ
name ssrc letter = 0x81 ∷ 202 ∷ 0 ∷ 2 ∷ four ssrc ++ 1 ∷ 1 ∷ letter ∷ 0 ∷ []

abbrev bye : ℕ → List ℕ
bye ssrc = 0x81 ∷ 203 ∷ 0 ∷ 1 ∷ four ssrc

abbrev asked : ℕ → ℕ → FrontEvent
asked ssrc seq = Requested (record { session = 0; ssrc = ssrc; seq = seq })

-- ---- steps, in short

data Short : Type 0 where
  Tells : BinLine → Short
  Opens : ℕ → ℕ → ℕ → Short
  Gives : ℕ → ℕ → ℕ → ℕ → Origin → ℕ → List ℕ → Short
  Syncs : ℕ → ℕ → ℕ → ℕ → ℕ → Short

-- of a lane its number, rate and pushers; of a packet its pusher, lane, k, stamp, origin and number, and its payload's first byte on
abbrev short : Step → Short
short (step.Tell line) = Tells line
short (step.Open o) = Opens o.lane o.settings.rate o.settings.pushers
short (step.Push lane a) = Gives a.pusher lane a.k a.stamp a.origin a.packet.seq a.packet.bytes
short (step.Sync lane r) = Syncs r.pusher lane r.k r.ntp_ns r.rtp

-- all steps, where the first event stands first
abbrev play : Contents → List FrontEvent → List Short
play c events = map short (all_steps c (reverse events))

-- the first packet of a stream in session 0
abbrev first : ℕ → ℕ → ℕ → List Short → List Short
first time lane ssrc more = Tells (told.Lane (ms time) lane 0 ssrc) ∷ Opens lane 90000 259 ∷ more

abbrev routed : ℕ → List Short → List Short
routed time more = Tells (told.Pt (ms time) 0 96 90000) ∷ more

-- a packet of type 96 of session 0
abbrev given : ℕ → ℕ → ℕ → ℕ → ℕ → Short
given lane k time ssrc seq = Gives 0 lane k (ms time) Original seq (rtp 96 ssrc seq (5 ∷ 6 ∷ []))

abbrev dropped : ℕ → ℕ → ℕ → Word → Short
dropped time ssrc seq why = Tells (told.Drop (ms time) 0 ssrc seq why)

-- ---- reports

-- the program's name
abbrev described : List ℕ
described = 0x81 ∷ 202 ∷ 0 ∷ 4 ∷ four 1 ++ 1 ∷ 6 ∷ 0x72 ∷ 0x74 ∷ 0x70 ∷ 0x62 ∷ 0x69 ∷ 0x6e ∷ 0 ∷ 0 ∷ 0 ∷ 0 ∷ []

abbrev report : ℕ → List ℕ → List ℕ
report blocks bytes = (0x80 + blocks) ∷ 201 ∷ 0 ∷ (1 + 6 * blocks) ∷ four 1 ++ bytes ++ described

-- ---- probation

-- the packet that makes a source valid brings the one that waited, with its own stamp
a_run : play (usual 2) (packet 0 7 65535 ∷ packet 20 7 0 ∷ packet 40 7 1 ∷ [])
    ≡ Tells (told.Hold 0 0 7 65535) ∷ routed 20 (first 20 0 7 (given 0 0 0 7 65535 ∷ given 0 1 20 7 0 ∷ given 0 2 40 7 1 ∷ []))
unfolding number_at udp ipv4 frame datagram_of first_fault
a_run = refl

-- a packet that breaks a run drops those that wait
a_broken_run : play (usual 3) (packet 0 7 1 ∷ packet 10 7 2 ∷ packet 20 7 4 ∷ packet 30 7 5 ∷ packet 40 7 6 ∷ [])
    ≡ Tells (told.Hold 0 0 7 1) ∷ Tells (told.Hold (ms 10) 0 7 2) ∷ dropped 20 7 1 word.Probation ∷ dropped 20 7 2 word.Probation ∷ Tells (told.Hold (ms 20) 0 7 4) ∷ Tells (told.Hold (ms 30) 0 7 5)
    ∷ routed 40 (first 40 0 7 (given 0 0 20 7 4 ∷ given 0 1 30 7 5 ∷ given 0 2 40 7 6 ∷ []))
unfolding number_at udp ipv4 frame datagram_of first_fault
a_broken_run = refl

-- packets that wait go with their source, and a new run begins behind it
a_removed_run : play (usual 2) (packet 0 7 1 ∷ ReportsDue (ms 600) ∷ packet 700 7 2 ∷ packet 720 7 3 ∷ [])
    ≡ Tells (told.Hold 0 0 7 1) ∷ Tells (told.Gone (ms 600) 0 7) ∷ Tells (told.Report (ms 600) 0 (report 0 [])) ∷ Tells (told.Report (ms 600) 1 (report 0 []))
    ∷ Tells (told.Hold (ms 700) 0 7 2) ∷ routed 720 (first 720 0 7 (given 0 0 700 7 2 ∷ given 0 1 720 7 3 ∷ []))
unfolding number_at udp ipv4 frame datagram_of first_fault
a_removed_run = refl

-- a source that comes again is new to its session, and has its lane and the next numbers there
a_returning_source : play (usual 2) (packet 0 7 1 ∷ packet 20 7 2 ∷ sent 30 40001 5005 (bye 7) ∷ ReportsDue (ms 100) ∷ packet 200 7 3 ∷ packet 220 7 4 ∷ [])
    ≡ Tells (told.Hold 0 0 7 1) ∷ routed 20 (first 20 0 7 (given 0 0 0 7 1 ∷ given 0 1 20 7 2 ∷ Tells (told.Bye (ms 30) 0 7) ∷ Tells (told.Gone (ms 100) 0 7)
    ∷ Tells (told.Report (ms 100) 0 (report 0 [])) ∷ Tells (told.Report (ms 100) 1 (report 0 []))
    ∷ Tells (told.Hold (ms 200) 0 7 3) ∷ given 0 2 200 7 3 ∷ given 0 3 220 7 4 ∷ []))
unfolding number_at udp ipv4 frame datagram_of first_fault items_at chunk_at chunks_at packet_of header_fault headers_fault packets_at compound_of
a_returning_source = refl

-- ---- packets that go to no lane

refused : play (usual 0) (packet 0 7 1 ∷ packet 1 1 1 ∷ sent 2 40001 5004 (rtp 96 7 2 []) ∷ sent 3 40000 5004 (rtp 99 8 1 []) ∷ sent 4 40000 5007 [] ∷ sent 5 40000 5004 [] ∷ [])
    ≡ routed 0 (first 0 0 7 (given 0 0 0 7 1 ∷ dropped 1 1 1 word.Own ∷ dropped 2 7 2 word.Collision ∷ dropped 3 8 1 word.Unmapped ∷ Tells (told.Skip (ms 4) 5 word.Port) ∷ Tells (told.Bad (ms 5) 0 word.Short) ∷ []))
unfolding number_at udp ipv4 frame datagram_of first_fault
refused = refl

-- a type of another rate is routed, but its packet is dropped
another_rate : play (usual 0) (packet 0 7 1 ∷ sent 1 40000 5004 (rtp 98 7 2 []) ∷ sent 2 40000 5004 (rtp 98 7 3 []) ∷ [])
    ≡ routed 0 (first 0 0 7 (given 0 0 0 7 1 ∷ Tells (told.Pt (ms 1) 0 98 8000) ∷ dropped 1 7 2 word.Rate ∷ dropped 2 7 3 word.Rate ∷ []))
unfolding number_at udp ipv4 frame datagram_of first_fault
another_rate = refl

abbrev sights : ℕ → List Sight
sights zero = []
sights (suc n) = sights n ++ sight 0 n 90000 ∷ []

-- a table with the sources of the SSRCs below a number, all at one address
abbrev somebody : Address
somebody = record { family = 4; ip = []; port = 40000 }

abbrev sources : ℕ → List (ℕ × Source)
sources zero = []
sources (suc n) = sources n ++ (n, fresh somebody) ∷ []

abbrev a_table : ℕ → Table
a_table n = record (empty 100 2) { sources = sources n }

abbrev a_packet : Packet
a_packet = record { arrival = 0; seq = 1; timestamp = 0; rate = None; needed = 2 }

-- 64 sources are all; a packet of one of them is heard all the same
all_sources : heard (a_table 64) somebody 64 a_packet ≡ Err LimitSources
all_sources = refl

last_source : heard (a_table 63) somebody 63 a_packet ≡ Ok (Waiting false)
last_source = refl

old_source : heard (a_table 64) somebody 63 a_packet ≡ Ok (Waiting false)
old_source = refl

-- 64 lanes are all
all_lanes : lane_for (sights 64) (sight 0 64 90000) ≡ lane.Full
all_lanes = refl

last_lane : lane_for (sights 63) (sight 0 64 90000) ≡ lane.New 63
last_lane = refl

-- ---- retransmissions

-- the bytes of a packet of type 96 that a retransmission carried, which has the time of the retransmission's own number 0
abbrev carried : ℕ → ℕ → List ℕ
carried ssrc seq = 0x80 ∷ 96 ∷ two seq ++ four 0 ++ four ssrc ++ 5 ∷ 6 ∷ []

-- a paired stream needs no probation, and its retransmissions go to its lane
a_pair : play paired (again 0 9 3 ∷ packet 10 7 1 ∷ again 20 9 3 ∷ sent 30 40000 5004 (rtp 97 9 1 (0 ∷ [])) ∷ [])
    ≡ dropped 0 9 0 word.RtxSsrc ∷ routed 10 (first 10 0 7 (given 0 0 10 7 1 ∷ Gives 0 0 1 (ms 20) Retransmission 3 (carried 7 3) ∷ dropped 30 9 1 word.RtxShort ∷ []))
unfolding number_at udp ipv4 frame datagram_of first_fault
a_pair = refl

-- a lane has one rate, also for what is restored
a_pair_of_another_rate : play paired (sent 0 40000 5004 (rtp 98 7 1 []) ∷ again 20 9 3 ∷ [])
    ≡ Tells (told.Pt 0 0 98 8000) ∷ Tells (told.Lane 0 0 0 7) ∷ Opens 0 8000 259 ∷ Gives 0 0 0 0 Original 1 (rtp 98 7 1 []) ∷ dropped 20 9 0 word.Rate ∷ []
unfolding number_at udp ipv4 frame datagram_of first_fault
a_pair_of_another_rate = refl

-- another session's retransmissions have the SSRC of the stream, and numbers of their own on the way to its lane
another_session : play (usual 0) (packet 0 7 1 ∷ sent 10 40000 5006 (rtp 97 7 0 (two 3 ++ 5 ∷ 6 ∷ [])) ∷ packet 20 7 2 ∷ sent 30 40000 5006 (rtp 96 7 1 (5 ∷ 6 ∷ [])) ∷ sent 40 40000 5006 (rtp 96 7 2 []) ∷ [])
    ≡ routed 0 (first 0 0 7 (given 0 0 0 7 1 ∷ Gives 1 0 0 (ms 10) Retransmission 3 (carried 7 3) ∷ given 0 1 20 7 2
    ∷ Tells (told.Pt (ms 30) 1 96 48000) ∷ Tells (told.Lane (ms 30) 1 1 7) ∷ Opens 1 48000 258 ∷ Gives 1 1 0 (ms 30) Original 1 (rtp 96 7 1 (5 ∷ 6 ∷ [])) ∷ Gives 1 1 1 (ms 40) Original 2 (rtp 96 7 2 []) ∷ []))
unfolding number_at udp ipv4 frame datagram_of first_fault
another_session = refl

-- a request finds the stream, and then all retransmissions of this SSRC are its own
a_request : play (usual 0) (packet 0 7 1 ∷ again 10 9 3 ∷ asked 7 3 ∷ again 20 9 3 ∷ again 30 9 4 ∷ [])
    ≡ routed 0 (first 0 0 7 (given 0 0 0 7 1 ∷ dropped 10 9 0 word.RtxSsrc ∷ Gives 0 0 1 (ms 20) Retransmission 3 (carried 7 3) ∷ Gives 0 0 2 (ms 30) Retransmission 4 (carried 7 4) ∷ []))
unfolding number_at udp ipv4 frame datagram_of first_fault
a_request = refl

two_requests : play (usual 0) (packet 0 7 1 ∷ packet 0 8 1 ∷ asked 7 3 ∷ asked 8 3 ∷ again 20 9 3 ∷ [])
    ≡ routed 0 (first 0 0 7 (given 0 0 0 7 1 ∷ first 0 1 8 (given 1 0 0 8 1 ∷ dropped 20 9 0 word.RtxAmbiguous ∷ [])))
unfolding number_at udp ipv4 frame datagram_of first_fault
two_requests = refl

-- ---- RTCP

-- names come first, and sender reports count on the way to the lane
a_compound : play (usual 0) (packet 0 7 1 ∷ sent 10 40001 5005 (sr 7 1000 ++ sr 8 1000 ++ name 7 0x61) ∷ packet 20 7 2 ∷ [])
    ≡ routed 0 (first 0 0 7 (given 0 0 0 7 1 ∷ Tells (told.Cname (ms 10) 0 7 (0x61 ∷ [])) ∷ Tells (told.Sr (ms 10) 0 7 (ms 1000000) 900) ∷ Syncs 0 0 1 (ms 1000000) 900
    ∷ Tells (told.RtcpStray (ms 10) 0 8) ∷ given 0 2 20 7 2 ∷ []))
unfolding number_at udp ipv4 frame datagram_of first_fault items_at chunk_at chunks_at packet_of header_fault headers_fault packets_at compound_of
a_compound = refl

-- of a chunk the first CNAME counts; a name that holds already is not told again, an empty one is a name
abbrev chunk : ℕ → List ℕ → List ℕ
chunk ssrc items = 0x81 ∷ 202 ∷ 0 ∷ 3 ∷ four ssrc ++ items

names : play (usual 0)
    (sent 0 40001 5005 (chunk 7 (1 ∷ 0 ∷ 0 ∷ 0 ∷ 0 ∷ 0 ∷ 0 ∷ 0 ∷ [])) ∷ packet 1 7 1
    ∷ sent 10 40001 5005 (chunk 7 (2 ∷ 1 ∷ 0x78 ∷ 1 ∷ 1 ∷ 0x61 ∷ 0 ∷ 0 ∷ [])) ∷ sent 20 40001 5005 (chunk 7 (1 ∷ 1 ∷ 0x61 ∷ 1 ∷ 1 ∷ 0x62 ∷ 0 ∷ 0 ∷ []))
    ∷ sent 30 40001 5005 (chunk 7 (1 ∷ 0 ∷ 0 ∷ 0 ∷ 0 ∷ 0 ∷ 0 ∷ 0 ∷ [])) ∷ [])
    ≡ routed 1 (first 1 0 7 (given 0 0 1 7 1 ∷ Tells (told.Cname (ms 10) 0 7 (0x61 ∷ [])) ∷ Tells (told.Cname (ms 30) 0 7 []) ∷ []))
unfolding number_at udp ipv4 frame datagram_of first_fault items_at chunk_at chunks_at packet_of header_fault headers_fault packets_at compound_of
names = refl

-- two sessions have sources of one name: each sender report goes to its own lane
two_reports : play (usual 0)
    (packet 0 7 1 ∷ sent 1 40000 5006 (rtp 96 9 1 []) ∷ sent 10 40001 5005 (sr 7 1000 ++ name 7 0x61) ∷ sent 20 40001 5006 (sr 9 1002 ++ name 9 0x61) ∷ [])
    ≡ routed 0 (first 0 0 7 (given 0 0 0 7 1 ∷ Tells (told.Pt (ms 1) 1 96 48000) ∷ Tells (told.Lane (ms 1) 1 1 9) ∷ Opens 1 48000 258 ∷ Gives 1 1 0 (ms 1) Original 1 (rtp 96 9 1 [])
    ∷ Tells (told.Cname (ms 10) 0 7 (0x61 ∷ [])) ∷ Tells (told.Sr (ms 10) 0 7 (ms 1000000) 900) ∷ Syncs 0 0 1 (ms 1000000) 900
    ∷ Tells (told.Cname (ms 20) 1 9 (0x61 ∷ [])) ∷ Tells (told.Sr (ms 20) 1 9 (ms 1002000) 900) ∷ Syncs 1 1 1 (ms 1002000) 900 ∷ []))
unfolding number_at udp ipv4 frame datagram_of first_fault items_at chunk_at chunks_at packet_of header_fault headers_fault packets_at compound_of
two_reports = refl

-- where the lanes then are at 100 and 105 milliseconds of their own, the second one is 1.995 seconds behind
abbrev of_lane : ℕ → ℕ → LaneReport
of_lane ntp local = report_of (0x61 ∷ []) (delta_of (record { ntp_ns = ms ntp; local = ms local }))

a_least_delta : least_in (0x61 ∷ []) (of_lane 1000000 100 ∷ of_lane 1002000 105 ∷ []) ≡ Some (pos (ms 999900))
a_least_delta = refl

two_offsets : offsets_in (0x61 ∷ []) (pos (ms 999900)) ((0, of_lane 1000000 100) ∷ (1, of_lane 1002000 105) ∷ []) ≡ (0, 0) ∷ (1, ms 1995) ∷ []
two_offsets = refl

-- on a shared port the second byte tells RTCP; nothing is heard of a compound with a fault
a_shared_port : play (usual 0) (sent 0 40000 5006 (rtp 96 7 1 []) ∷ sent 1 40000 5006 (name 7 0x61 ++ 0x80 ∷ []) ∷ sent 2 40000 5006 (name 7 0x62) ∷ [])
    ≡ Tells (told.Pt 0 1 96 48000) ∷ Tells (told.Lane 0 0 1 7) ∷ Opens 0 48000 258 ∷ Gives 1 0 0 0 Original 1 (rtp 96 7 1 []) ∷ Tells (told.RtcpBad (ms 1) 1 word.Short 12) ∷ Tells (told.Cname (ms 2) 1 7 (0x62 ∷ [])) ∷ []
unfolding number_at udp ipv4 frame datagram_of first_fault items_at chunk_at chunks_at packet_of header_fault headers_fault packets_at compound_of
a_shared_port = refl

-- ---- report times

-- a block: SSRC, fraction, loss, greatest number, jitter, no sender report
abbrev block : ℕ → ℕ → ℕ → ℕ → ℕ → List ℕ
block ssrc fraction lost greatest jitter = four ssrc ++ fraction ∷ 0 ∷ two lost ++ four greatest ++ four jitter ++ four 0 ++ four 0

-- a source that said BYE goes, one that spoke has a block and none until it speaks again, and the other session has none
a_report : play (usual 0) (packet 0 7 1 ∷ packet 1 8 1 ∷ packet 3 8 3 ∷ sent 4 40001 5005 (bye 7) ∷ ReportsDue (ms 100) ∷ ReportsDue (ms 200) ∷ ReportsDue (ms 600) ∷ [])
    ≡ routed 0 (first 0 0 7 (given 0 0 0 7 1 ∷ first 1 1 8 (given 1 0 1 8 1 ∷ given 1 1 3 8 3 ∷ Tells (told.Bye (ms 4) 0 7) ∷ Tells (told.Gone (ms 100) 0 7)
    ∷ Tells (told.Report (ms 100) 0 (report 1 (block 8 85 1 3 0))) ∷ Tells (told.Report (ms 100) 1 (report 0 []))
    ∷ Tells (told.Report (ms 200) 0 (report 0 [])) ∷ Tells (told.Report (ms 200) 1 (report 0 []))
    ∷ Tells (told.Gone (ms 600) 0 8) ∷ Tells (told.Report (ms 600) 0 (report 0 [])) ∷ Tells (told.Report (ms 600) 1 (report 0 [])) ∷ [])))
unfolding number_at udp ipv4 frame datagram_of first_fault items_at chunk_at chunks_at packet_of header_fault headers_fault packets_at compound_of
a_report = refl

-- the report's bytes with two sources, in the order of first sight
two_sources : play (usual 0) (packet 0 8 1 ∷ packet 1 7 1 ∷ ReportsDue (ms 100) ∷ [])
    ≡ routed 0 (first 0 0 8 (given 0 0 0 8 1 ∷ first 1 1 7 (given 1 0 1 7 1
    ∷ Tells (told.Report (ms 100) 0 (report 2 (block 8 0 0 1 0 ++ block 7 0 0 1 0))) ∷ Tells (told.Report (ms 100) 1 (report 0 [])) ∷ [])))
unfolding number_at udp ipv4 frame datagram_of first_fault
two_sources = refl

-- a packet of a report has 31 blocks at most, and there is one packet at least
abbrev a_block : ReportBlock
a_block = record { ssrc = 7; fraction = 0; lost = pos 0; greatest = 1; jitter = 0; lsr = 0; dlsr = 0 }

one_packet : map length (parts []) ≡ 0 ∷ []
one_packet = refl

full_packet : map length (parts (replicate 31 a_block)) ≡ 31 ∷ []
full_packet = refl

three_packets : map length (parts (replicate 63 a_block)) ≡ 31 ∷ 31 ∷ 1 ∷ []
three_packets = refl

-- ---- a capture

-- the name that a source has
a_cname : cname (usual 0) (sent 10 40001 5005 (name 7 0x61) ∷ packet 0 7 1 ∷ []) 0 7 ≡ Some (0x61 ∷ [])
unfolding number_at udp ipv4 frame datagram_of first_fault items_at chunk_at chunks_at packet_of header_fault headers_fault packets_at compound_of
a_cname = refl

abbrev stamped : ℕ → Record
stamped time = record { link = 228; offset = 24; stamp = ms time; original = 0; bytes = [] }

-- time 0 is the first record's, and no record comes before the one in front of it
at_their_times : captured (stamped 5 ∷ stamped 3 ∷ stamped 9 ∷ []) ≡ Came (ms 4) (stamped 9) ∷ Came 0 (stamped 3) ∷ Came 0 (stamped 5) ∷ []
at_their_times = refl

-- ---- sixty-five of them, from bytes

-- one packet from each of so many sources, to this port, the first of which has this SSRC
abbrev crowd : ℕ → ℕ → ℕ → List FrontEvent → List FrontEvent
crowd port ssrc zero older = older
crowd port ssrc (suc n) older =
    sent n 40000 port (rtp 96 (ssrc + n) 1 (5 ∷ 6 ∷ [])) ∷ crowd port ssrc n older

-- a session keeps 64 sources
a_crowded_session : steps (usual 0) (crowd 5004 1000 64 []) (packet 70 9000 1)
    ≡ step.Tell (told.Drop (ms 70) 0 9000 1 word.Sources) ∷ []
unfolding number_at udp ipv4 frame datagram_of first_fault
a_crowded_session = refl

-- two sessions have 64 lanes between them
crowded_lanes : steps (usual 0) (crowd 5006 1000 24 (crowd 5004 1000 40 []))
    (sent 70 40000 5006 (rtp 96 9000 1 (5 ∷ 6 ∷ [])))
    ≡ step.Tell (told.Drop (ms 70) 1 9000 1 word.Lanes) ∷ []
unfolding number_at udp ipv4 frame datagram_of first_fault
crowded_lanes = refl
