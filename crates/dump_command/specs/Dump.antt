-- The lines of a dump: one for each record, and the last one.
use Rattle.std.specs.Prelude.{ℕ, ◌+◌, ◌/◌, ◌&&◌, nat_le, Bool, false, if◌then◌else◌}
use Rattle.std.specs.Prelude.{List, [], ◌∷◌, ◌++◌, length, map, Option, Some, None, Result, Ok, Err}
use Rattle.std.specs.List.{flat_map}
use Rattle.pcap_file.specs.Capture.{Record}
use Rattle.pcap_file.specs.Datagrams.{Sent, datagram_of}
use Rattle.pcap_file.specs.declared.udp.Skip.{Skip as NoDatagram}
use Rattle.rtp_wire.specs.Packet.{Packet, first_fault}
use Rattle.rtp_wire.specs.View.{packet_of}
use Rattle.rtp_wire.specs.declared.fault.RtpFault.{RtpFault}
use Rattle.rtcp_wire.specs.Compound.{compound_of}
use Rattle.rtcp_wire.specs.declared.packet.Rtcp.{Rtcp}
use Rattle.rtcp_wire.specs.Written.{kind_byte}
use Rattle.rtcp_wire.specs.declared.fault.RtcpFault.{RtcpFault}
use Rattle.timeline.specs.Words.{skip_word, rtp_word, rtcp_word}
use Rattle.timeline.specs.declared.line.Word.{Word}
use Rattle.timeline.specs.declared.dumped.Ports.{Ports}
use Rattle.timeline.specs.declared.dumped.RtpFacts.{RtpFacts}
use Rattle.timeline.specs.declared.dumped.DumpLine.{DumpLine}
use Rattle.timeline.specs.declared.dumped.DumpLine.TheVariants as told
use Rattle.timeline.specs.Times.{Timed, at_times}
use Rattle.log_text.specs.Dumped.{dump_text}
use Rattle.command_core.specs.Output.{Output}

-- The second byte of an RTCP packet is its type, from 192 to 223 (RFC 5761, section 4).
abbrev pub is_rtcp : List ℕ → Bool
is_rtcp (first ∷ kind ∷ rest) = nat_le 192 kind && nat_le kind 223
is_rtcp payload = false

-- ---- an RTP packet

-- the words of an extension, if there is one
abbrev pub word_count : Option (ℕ × List ℕ) → ℕ
word_count None = 0
word_count (Some (profile, bytes)) = length bytes / 4

abbrev pub facts_of : Packet → RtpFacts
facts_of p = record {
  pt = p.pt;
  seq = p.seq;
  timestamp = p.timestamp;
  ssrc = p.ssrc;
  marker = p.marker;
  csrcs = length p.csrcs;
  words = word_count p.extension;
  padding = p.padding;
  len = length p.payload;
}

abbrev pub rtp_line : ℕ → ℕ → Ports → List ℕ → Option RtpFault → DumpLine
rtp_line number time ports payload (Some fault) = told.Bad number time ports (rtp_word fault)
rtp_line number time ports payload None = told.Rtp number time ports (facts_of (packet_of payload))

-- ---- an RTCP compound

-- A compound has a word for each fault but want of memory, which is none of its bytes.
abbrev pub bad_line : ℕ → ℕ → Ports → Option (Word × ℕ) → DumpLine
bad_line number time ports None = told.Done 0
bad_line number time ports (Some (why, offset)) =
    told.BadRtcp number time ports (record { word = why; offset = offset })

abbrev pub rtcp_line : ℕ → ℕ → Ports → Result (List Rtcp) RtcpFault → DumpLine
rtcp_line number time ports (Ok packets) = told.Rtcp number time ports (map kind_byte packets)
rtcp_line number time ports (Err fault) = bad_line number time ports (rtcp_word fault)

-- ---- a record

abbrev pub ports_of : Sent → Ports
ports_of sent = record { «from» = sent.from.port; to = sent.to.port }

abbrev pub payload_line : ℕ → ℕ → Ports → List ℕ → DumpLine
payload_line number time ports payload =
    if is_rtcp payload then rtcp_line number time ports (compound_of payload)
    else rtp_line number time ports payload (first_fault payload)

abbrev pub datagram_line : ℕ → ℕ → Result Sent NoDatagram → DumpLine
datagram_line number time (Err why) = told.Skip number time (skip_word why)
datagram_line number time (Ok sent) = payload_line number time (ports_of sent) sent.payload

-- the line of a record by its number, from 1, and its time
unfoldable pub line_of : ℕ → Timed → DumpLine
line_of number r = datagram_line number r.time (datagram_of r.captured)

-- ---- the dump

-- the lines of records, so many of which came before
abbrev pub lines_behind : ℕ → List Timed → List DumpLine
lines_behind count [] = []
lines_behind count (r ∷ rs) = line_of (count + 1) r ∷ lines_behind (count + 1) rs

abbrev pub texts_of : List DumpLine → List ℕ
texts_of lines = flat_map dump_text lines

unfoldable pub dump_part : List Record → List ℕ
dump_part seen = texts_of (lines_behind 0 (at_times seen))

abbrev pub dump_output : Output
dump_output = record {
  part = dump_part;
  whole = λ seen. dump_part seen ++ dump_text (told.Done (length seen));
}
