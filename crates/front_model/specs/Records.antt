-- What a record holds, by itself.
use Rattle.std.specs.Prelude.{ℕ, ◌==◌, ◌&&◌, ◌||◌, nat_le, if◌then◌else◌, Bool, List, slice_index, find, Option, Some, None, Result, Ok, Err}
use Rattle.rtp_units.specs.declared.shared.Address.{Address}
use Rattle.pcap_file.specs.Capture.{Record}
use Rattle.pcap_file.specs.Datagrams.{Sent, datagram_of}
use Rattle.pcap_file.specs.declared.udp.Skip.{Skip}
use Rattle.rtp_wire.specs.Packet.{Packet as View, first_fault}
use Rattle.rtp_wire.specs.View.{packet_of}
use Rattle.rtp_wire.specs.declared.fault.RtpFault.{RtpFault}
use Rattle.rtcp_wire.specs.Compound.{compound_of}
use Rattle.rtcp_wire.specs.declared.packet.Rtcp.{Rtcp}
use Rattle.rtcp_wire.specs.declared.fault.RtcpFault.{RtcpFault}
use Rattle.script_lang.specs.declared.script.SessionLine.{SessionLine}
use Rattle.timeline.specs.Words.{skip_word}
use Rattle.timeline.specs.declared.line.Word.{Word}
use Rattle.timeline.specs.declared.line.Word.TheVariants as word

-- No datagram of a session, and why; or of a session: a payload that is no packet of RTP, one that
-- is no compound of RTCP, a packet from an address, or the packets of a compound.
pub data Holding : Type 0 where
  Nothing : Word → Holding
  BadPacket : ℕ → RtpFault → Holding
  BadCompound : ℕ → RtcpFault → Holding
  Packet : ℕ → Address → View → Holding
  Compound : ℕ → List Rtcp → Holding

-- ---- a payload

-- On a port that both kinds share the second byte tells them apart (RFC 5761).
abbrev pub is_rtcp_type : List ℕ → Bool
is_rtcp_type payload = nat_le 192 (slice_index payload 1) && nat_le (slice_index payload 1) 223

abbrev pub is_rtcp : SessionLine → Sent → Bool
is_rtcp l sent = if l.rtp == l.rtcp then is_rtcp_type sent.payload else sent.to.port == l.rtcp

abbrev pub packet_in : ℕ → Address → List ℕ → Option RtpFault → Holding
packet_in session from payload (Some fault) = BadPacket session fault
packet_in session from payload None = Packet session from (packet_of payload)

abbrev pub compound_in : ℕ → Result (List Rtcp) RtcpFault → Holding
compound_in session (Err fault) = BadCompound session fault
compound_in session (Ok packets) = Compound session packets

abbrev pub payload_in : SessionLine → Sent → Holding
payload_in l sent =
    if is_rtcp l sent then compound_in l.session (compound_of sent.payload)
    else packet_in l.session sent.from sent.payload (first_fault sent.payload)

-- ---- a record

-- A datagram is its session's by the destination port.
abbrev pub is_to : ℕ → SessionLine → Bool
is_to port l = l.rtp == port || l.rtcp == port

abbrev pub datagram_in : Option SessionLine → Sent → Holding
datagram_in None sent = Nothing word.Port
datagram_in (Some l) sent = payload_in l sent

abbrev pub record_in : List SessionLine → Result Sent Skip → Holding
record_in sessions (Err why) = Nothing (skip_word why)
record_in sessions (Ok sent) = datagram_in (find (is_to sent.to.port) sessions) sent

-- what a record holds for these sessions
abbrev pub holding : List SessionLine → Record → Holding
holding sessions r = record_in sessions (datagram_of r)
