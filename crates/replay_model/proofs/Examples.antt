-- The log on examples that were worked out by hand, from bytes to lines. Times are in milliseconds where `ms` stands.
use Rattle.std.specs.Prelude.{ℕ, ◌+◌, ◌*◌, ◌/◌, ◌%◌, ◌≡◌, ◌++◌, true, false, List, [], ◌∷◌, length, refl}
use Rattle.rtp_units.specs.declared.Mode.TheVariants.{Slave}
use Rattle.rtp_units.specs.declared.shared.Fid.{Fid}
use Rattle.rtp_units.specs.declared.shared.RtxLine.{RtxLine}
use Rattle.pcap_file.specs.Capture.{Record}
use Rattle.pcap_file.specs.Numbers.{number_at}
use Rattle.pcap_file.specs.Datagrams.{udp, ipv4, frame, datagram_of}
use Rattle.rtp_wire.specs.Packet.{first_fault}
use Rattle.rtcp_wire.specs.Nacking.{greedy_behind}
use Rattle.rtcp_wire.specs.Sdes.{items_at, chunk_at, chunks_at}
use Rattle.rtcp_wire.specs.Bodies.{packet_of}
use Rattle.rtcp_wire.specs.Compound.{header_fault, headers_fault, packets_at, compound_of}
use Rattle.script_lang.specs.declared.script.Item.{Item}
use Rattle.script_lang.specs.declared.script.Action.{Action}
use Rattle.script_lang.specs.declared.script.Action.TheVariants as action
use Rattle.script_lang.specs.declared.script.SessionLine.{SessionLine}
use Rattle.script_lang.specs.declared.script.PtLine.{PtLine}
use Rattle.script_lang.specs.declared.setting.ScriptSettings.{ScriptSettings}
use Rattle.script_lang.specs.Contents.{Contents}
use Rattle.jitter_model.specs.History.{pusher_count}
use Rattle.jitter_model.specs.declared.Origin.TheVariants.{Original, Retransmission}
use Rattle.timeline.specs.declared.line.BinLine.{BinLine}
use Rattle.timeline.specs.declared.line.BinLine.TheVariants as told
use Rattle.timeline.specs.declared.line.Word.TheVariants as word
use Rattle.timeline.specs.Times.{at_times}
use Rattle.replay_model.specs.Inputs.{all_inputs}
use Rattle.replay_model.specs.Log.{log}

abbrev ms : ℕ → ℕ
ms t = t * 1000000

-- ---- scripts

abbrev settings : ScriptSettings
settings = record {
  latency = ms 100;
  mode = Slave;
  rtx = false;
  rtx_delay = ms 20;
  rtx_retry = ms 40;
  rtx_max = 3;
  reorder = 3;
  dropout = 3000;
  misorder = 100;
  probation = 0;
  faststart = 0;
  report = 0;
  timeout = ms 25000;
  history = 256;
  ssrc = 1;
}

-- session 0 on the ports 5004 and 5005, with type 96 at 90 kHz, and more
abbrev script : List SessionLine → List PtLine → List RtxLine → List Fid → List Item → ScriptSettings → Contents
script sessions pts rtx fids items s = record {
  sessions = record { session = 0; rtp = 5004; rtcp = 5005 } ∷ sessions;
  pts = record { session = 0; pt = 96; rate = 90000 } ∷ pts;
  rtx = rtx;
  fids = fids;
  items = items;
  settings = s;
}

abbrev usual : Contents
usual = script [] [] [] [] [] settings

-- ---- records

abbrev two : ℕ → List ℕ
two n = n / 256 % 256 ∷ n % 256 ∷ []

abbrev four : ℕ → List ℕ
four n = two (n / 65536) ++ two n

-- an IPv4 packet from 10.0.0.1 and this port to 10.0.0.2
abbrev sent : ℕ → ℕ → ℕ → List ℕ → Record
sent time from to payload = record {
  link = 228;
  offset = 24;
  stamp = ms time;
  original = 28 + length payload;
  bytes =
      0x45 ∷ 0 ∷ two (28 + length payload) ++ 0 ∷ 0 ∷ 0 ∷ 0 ∷ 64 ∷ 17 ∷ 0 ∷ 0 ∷ 10 ∷ 0 ∷ 0 ∷ 1 ∷ 10 ∷ 0 ∷ 0 ∷ 2
      ∷ two from ++ two to ++ two (8 + length payload) ++ 0 ∷ 0 ∷ payload;
}

-- a packet of RTP: its type, its SSRC, its number, its timestamp and its payload
abbrev rtp : ℕ → ℕ → ℕ → ℕ → List ℕ → List ℕ
rtp pt ssrc seq timestamp payload = 0x80 ∷ pt ∷ two seq ++ four timestamp ++ four ssrc ++ payload

abbrev stream : ℕ
stream = 0x11223344

abbrev bytes : ℕ → ℕ → List ℕ
bytes seq timestamp = rtp 96 stream seq timestamp (1 ∷ 2 ∷ 3 ∷ 4 ∷ [])

-- a packet of the stream
abbrev packet : ℕ → ℕ → ℕ → Record
packet time seq timestamp = sent time 40000 5004 (bytes seq timestamp)

abbrev play : Contents → List Record → List BinLine
play c rs = log c (all_inputs c.items (at_times rs))

-- ---- lines

abbrev head : List BinLine → List BinLine
head lines = told.Pt 0 0 96 90000 ∷ told.Lane 0 0 0 stream ∷ lines

-- it leaves the lane
abbrev out : ℕ → ℕ → ℕ → ℕ → ℕ → BinLine
out time seq number pts timestamp = told.Out (ms time) 0 number (ms pts) 96 false 4 (bytes seq timestamp)

-- ---- retransmissions

abbrev repeated : ScriptSettings → Contents
repeated s =
    script [] [] (record { session = 0; pt = 97; osession = 0; apt = 96 } ∷ []) (record { session = 0; ssrc = stream; rtx_ssrc = 0x55667788 } ∷ []) [] s

abbrev again : ℕ → ℕ → List ℕ → Record
again time seq payload = sent time 40000 5004 (rtp 97 0x55667788 seq 3600 payload)

-- a retransmission fills its original number, the next one comes again
a_retransmission : play (repeated settings) (packet 0 1 0 ∷ packet 20 2 1800 ∷ packet 60 4 5400 ∷ again 70 0 (0 ∷ 3 ∷ 0xaa ∷ 0xbb ∷ []) ∷ again 80 1 (0 ∷ 3 ∷ 0xaa ∷ 0xbb ∷ []) ∷ [])
    ≡ head (told.Refuse (ms 80) 0 3 Retransmission word.Duplicate ∷ out 100 1 65537 0 0 ∷ out 100 2 65538 20 1800
    ∷ told.Out (ms 100) 0 65539 (ms 40) 96 false 2 (rtp 96 stream 3 3600 (0xaa ∷ 0xbb ∷ [])) ∷ out 100 4 65540 60 5400 ∷ told.End (ms 100) 0 ∷ told.Done 5 1 4 0 1 ∷ [])
unfolding number_at udp ipv4 frame datagram_of first_fault pusher_count
a_retransmission = refl

-- ---- requests

abbrev asking : ScriptSettings
asking = record settings { rtx = true; reorder = 0 }

abbrev nack : ℕ → ℕ → ℕ → BinLine
nack time pid blp = told.Nack (ms time) 0 (0x81 ∷ 0xcd ∷ 0 ∷ 3 ∷ four 1 ++ four stream ++ two pid ++ two blp)

-- numbers that are missing are asked for, one line for each series of turns behind its other lines
requests : play (script [] [] [] [] [] asking) (packet 0 1 0 ∷ packet 20 2 1800 ∷ packet 80 5 7200 ∷ packet 80 7 10800 ∷ [])
    ≡ head (told.Request (ms 60) 0 65539 0 ∷ nack 60 3 0 ∷ told.Request (ms 100) 0 65540 0 ∷ told.Request (ms 100) 0 65542 0
    ∷ out 100 1 65537 0 0 ∷ out 100 2 65538 20 1800 ∷ nack 100 4 2 ∷ told.Request (ms 140) 0 65540 1 ∷ told.Request (ms 140) 0 65542 1
    ∷ told.Lost (ms 140) 0 65539 1 (ms 40) (ms 20) ∷ nack 140 4 2 ∷ told.Request (ms 160) 0 65544 0 ∷ told.Lost (ms 160) 0 65540 1 (ms 60) (ms 20)
    ∷ out 160 5 65541 80 7200 ∷ nack 160 8 0 ∷ told.Request (ms 180) 0 65542 2 ∷ nack 180 6 0 ∷ told.Request (ms 200) 0 65544 1
    ∷ told.Lost (ms 200) 0 65542 1 (ms 100) (ms 20) ∷ out 200 7 65543 120 10800 ∷ nack 200 8 0 ∷ told.End (ms 200) 0 ∷ told.Done 4 1 4 3 0 ∷ [])
unfolding number_at udp ipv4 frame datagram_of first_fault pusher_count greedy_behind
requests = refl

-- A number that was asked for is noted: a retransmission of it finds its stream by that.
a_request : play (script [] [] (record { session = 0; pt = 97; osession = 0; apt = 96 } ∷ []) [] [] asking)
    (packet 0 1 0 ∷ packet 20 2 1800 ∷ packet 60 4 5400 ∷ again 70 0 (0 ∷ 3 ∷ 0xaa ∷ 0xbb ∷ []) ∷ [])
    ≡ head (told.Request (ms 60) 0 65539 0 ∷ nack 60 3 0 ∷ told.Request (ms 100) 0 65541 0 ∷ out 100 1 65537 0 0 ∷ out 100 2 65538 20 1800
    ∷ told.Out (ms 100) 0 65539 (ms 40) 96 false 2 (rtp 96 stream 3 3600 (0xaa ∷ 0xbb ∷ [])) ∷ out 100 4 65540 60 5400 ∷ nack 100 5 0
    ∷ told.Request (ms 140) 0 65541 1 ∷ nack 140 5 0 ∷ told.End (ms 140) 0 ∷ told.Done 4 1 4 0 0 ∷ [])
unfolding number_at udp ipv4 frame datagram_of first_fault pusher_count greedy_behind
a_request = refl

-- ---- report times

abbrev report : ℕ → List ℕ → BinLine
report time block =
    told.Report (ms time) 0 (0x81 ∷ 0xc9 ∷ 0 ∷ 7 ∷ four 1 ++ four stream ++ block ++ 0x81 ∷ 0xca ∷ 0 ∷ 4 ∷ four 1 ++ 1 ∷ 6 ∷ 0x72 ∷ 0x74 ∷ 0x70 ∷ 0x62 ∷ 0x69 ∷ 0x6e ∷ 0 ∷ 0 ∷ 0 ∷ 0 ∷ [])

-- reports come between the wakes, and none after the last input
reports : play (script [] [] [] [] [] (record settings { report = ms 1000 })) (packet 0 1 0 ∷ packet 20 2 1800 ∷ packet 60 4 5400 ∷ packet 1100 5 99000 ∷ packet 1110 5 99000 ∷ packet 2100 6 189000 ∷ [])
    ≡ head (out 100 1 65537 0 0 ∷ out 100 2 65538 20 1800 ∷ told.Lost (ms 140) 0 65539 1 (ms 40) (ms 20) ∷ out 140 4 65540 60 5400
    ∷ report 1000 (0x40 ∷ 0 ∷ 0 ∷ 1 ∷ four 4 ++ four 0 ++ four 0 ++ four 0) ∷ out 1100 5 65541 1100 99000 ∷ told.Refuse (ms 1110) 0 5 Original word.Late
    ∷ report 2000 (four 0 ++ four 5 ++ four 56 ++ four 0 ++ four 0) ∷ out 2100 6 65542 2100 189000 ∷ told.End (ms 2100) 0 ∷ told.Done 6 1 5 1 1 ∷ [])
unfolding number_at udp ipv4 frame datagram_of first_fault pusher_count
reports = refl

-- at one time the report comes before the wakes, and the first lane's wake before the second's
at_one_time : play (script [] [] [] [] [] (record settings { report = ms 100 })) (packet 0 1 0 ∷ sent 0 40000 5004 (rtp 96 7 1 0 []) ∷ sent 150 40000 5007 [] ∷ [])
    ≡ head (told.Lane 0 1 0 7 ∷ told.Report (ms 100) 0 (0x82 ∷ 0xc9 ∷ 0 ∷ 13 ∷ four 1 ++ four stream ++ four 0 ++ four 1 ++ four 0 ++ four 0 ++ four 0
    ++ four 7 ++ four 0 ++ four 1 ++ four 0 ++ four 0 ++ four 0 ++ 0x81 ∷ 0xca ∷ 0 ∷ 4 ∷ four 1 ++ 1 ∷ 6 ∷ 0x72 ∷ 0x74 ∷ 0x70 ∷ 0x62 ∷ 0x69 ∷ 0x6e ∷ 0 ∷ 0 ∷ 0 ∷ 0 ∷ [])
    ∷ out 100 1 65537 0 0 ∷ told.Out (ms 100) 1 65537 0 96 false 0 (rtp 96 7 1 0 []) ∷ told.Skip (ms 150) 3 word.Port
    ∷ told.End (ms 150) 0 ∷ told.End (ms 150) 1 ∷ told.Done 3 2 2 0 0 ∷ [])
unfolding number_at udp ipv4 frame datagram_of first_fault pusher_count
at_one_time = refl

-- ---- probation, and packets that go to no lane

-- the packet that makes a source valid brings the one that waited, with its own stamp
a_run : play (script [] [] [] [] [] (record settings { probation = 2 })) (packet 0 1 0 ∷ packet 20 2 1800 ∷ [])
    ≡ told.Hold 0 0 stream 1 ∷ told.Pt (ms 20) 0 96 90000 ∷ told.Lane (ms 20) 0 0 stream ∷ out 100 1 65537 0 0 ∷ out 100 2 65538 20 1800
    ∷ told.End (ms 100) 0 ∷ told.Done 2 1 2 0 0 ∷ []
unfolding number_at udp ipv4 frame datagram_of first_fault pusher_count
a_run = refl

-- from another port, and under the program's own SSRC; a compound whose second packet passes the end
dropped : play usual (packet 0 1 0 ∷ sent 1 40001 5004 (bytes 2 1800) ∷ sent 2 40000 5004 (rtp 96 1 7 0 []) ∷ sent 3 40001 5005 (0x80 ∷ 0xc9 ∷ 0 ∷ 1 ∷ four 2 ++ 0x81 ∷ 0xca ∷ 0 ∷ 0xff ∷ four 2) ∷ [])
    ≡ head (told.Drop (ms 1) 0 stream 2 word.Collision ∷ told.Drop (ms 2) 0 1 7 word.Own ∷ told.RtcpBad (ms 3) 0 word.Length 8
    ∷ out 100 1 65537 0 0 ∷ told.End (ms 100) 0 ∷ told.Done 4 1 1 0 0 ∷ [])
unfolding number_at udp ipv4 frame datagram_of first_fault pusher_count items_at chunk_at chunks_at packet_of header_fault headers_fault packets_at compound_of
dropped = refl

-- ---- offsets

abbrev other : ℕ
other = 0x22334455

-- a sender report and a name, a@b
abbrev named : ℕ → ℕ → ℕ → List ℕ
named ssrc seconds fraction =
    0x80 ∷ 0xc8 ∷ 0 ∷ 6 ∷ four ssrc ++ four seconds ++ four fraction ++ four 0 ++ four 1 ++ four 4
    ++ 0x81 ∷ 0xca ∷ 0 ∷ 3 ∷ four ssrc ++ 1 ∷ 3 ∷ 0x61 ∷ 0x40 ∷ 0x62 ∷ 0 ∷ 0 ∷ 0 ∷ []

abbrev name : List ℕ
name = 0x61 ∷ 0x40 ∷ 0x62 ∷ []

-- lanes of two sessions have one name, so each report tells how far both are behind the first one
offsets : play (script (record { session = 1; rtp = 5006; rtcp = 5007 } ∷ []) (record { session = 1; pt = 97; rate = 48000 } ∷ []) [] [] [] settings)
    (packet 0 1 0 ∷ sent 400 40000 5006 (rtp 97 other 1 0 (1 ∷ 2 ∷ 3 ∷ 4 ∷ [])) ∷ sent 410 40001 5005 (named stream 1000 0) ∷ sent 420 40001 5007 (named other 1000 0x80000000) ∷ [])
    ≡ head (out 100 1 65537 0 0 ∷ told.Pt (ms 400) 1 97 48000 ∷ told.Lane (ms 400) 1 1 other
    ∷ told.Cname (ms 410) 0 stream name ∷ told.Sr (ms 410) 0 stream 1000000000000 0 ∷ told.Sync (ms 410) 0 0 ∷ told.Offset (ms 410) 0 0
    ∷ told.Cname (ms 420) 1 other name ∷ told.Sr (ms 420) 1 other 1000500000000 0 ∷ told.Sync (ms 420) 1 (ms 400) ∷ told.Offset (ms 420) 0 0 ∷ told.Offset (ms 420) 1 (ms 100)
    ∷ told.Out (ms 500) 1 65537 (ms 400) 97 false 4 (rtp 97 other 1 0 (1 ∷ 2 ∷ 3 ∷ 4 ∷ [])) ∷ told.End (ms 500) 0 ∷ told.End (ms 500) 1 ∷ told.Done 4 2 2 0 0 ∷ [])
unfolding number_at udp ipv4 frame datagram_of first_fault pusher_count items_at chunk_at chunks_at packet_of header_fault headers_fault packets_at compound_of
offsets = refl

-- ---- items

abbrev at : ℕ → Action → Item
at time a = record { time = ms time; action = a }

-- An item comes to its session's lanes alone. A lane that is made in a flush begins with it, and with the latency of then
a_late_lane : play (script (record { session = 1; rtp = 5006; rtcp = 5007 } ∷ []) (record { session = 1; pt = 96; rate = 90000 } ∷ []) [] []
    (at 0 (action.FlushStart 0) ∷ at 0 (action.Latency 0 (ms 50)) ∷ at 30 (action.FlushStop 0) ∷ []) settings)
    (packet 0 1 0 ∷ sent 10 40000 5006 (rtp 96 other 1 0 (1 ∷ 2 ∷ 3 ∷ 4 ∷ [])) ∷ packet 40 2 0 ∷ [])
    ≡ head (told.Flush 0 0 0 ∷ told.Refuse 0 0 1 Original word.Flushing ∷ told.Pt (ms 10) 1 96 90000 ∷ told.Lane (ms 10) 1 1 other ∷ told.Flushed (ms 30) 0
    ∷ out 90 2 65538 40 0 ∷ told.Out (ms 110) 1 65537 (ms 10) 96 false 4 (rtp 96 other 1 0 (1 ∷ 2 ∷ 3 ∷ 4 ∷ []))
    ∷ told.End (ms 110) 0 ∷ told.End (ms 110) 1 ∷ told.Done 3 2 2 0 1 ∷ [])
unfolding number_at udp ipv4 frame datagram_of first_fault pusher_count
a_late_lane = refl
