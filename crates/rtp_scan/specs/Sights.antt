-- What a record brings to a scan.
use Rattle.std.specs.Prelude.{ℕ, List, [], ◌∷◌, map, filter_map, reverse, Bool, false, ◌&&◌, nat_le}
use Rattle.std.specs.Prelude.{Option, Some, None, Result, Ok, Err, if◌then◌else◌}
use Rattle.pcap_file.specs.Capture.{Record}
use Rattle.pcap_file.specs.Datagrams.{Sent, datagram_of}
use Rattle.pcap_file.specs.declared.udp.Skip.{Skip}
use Rattle.rtp_wire.specs.Packet.{Packet, first_fault}
use Rattle.rtp_wire.specs.View.{packet_of}
use Rattle.rtp_wire.specs.declared.fault.RtpFault.{RtpFault}
use Rattle.rtcp_wire.specs.Compound.{compound_of}
use Rattle.rtcp_wire.specs.declared.packet.Rtcp.{Rtcp}
use Rattle.rtcp_wire.specs.declared.fault.RtcpFault.{RtcpFault}
use Rattle.timeline.specs.Times.{Timed, at_times}
use Rattle.rtp_scan.specs.declared.sight.Arrival.{Arrival}
use Rattle.rtp_scan.specs.declared.sight.Sight.{Sight}
use Rattle.rtp_scan.specs.declared.sight.Sight.TheVariants as sight

-- The second byte of an RTCP packet is its type, from 192 to 223 (RFC 5761, section 4).
abbrev pub is_rtcp : List ℕ → Bool
is_rtcp (first ∷ kind ∷ rest) = nat_le 192 kind && nat_le kind 223
is_rtcp payload = false

-- a packet that came to a port at a time
abbrev pub arrival_of : ℕ → ℕ → Packet → Arrival
arrival_of time port p = record {
  time = time;
  port = port;
  ssrc = p.ssrc;
  pt = p.pt;
  seq = p.seq;
  timestamp = p.timestamp;
}

abbrev pub rtp_sight : ℕ → ℕ → List ℕ → Option RtpFault → Sight
rtp_sight time port payload (Some fault) = sight.Nothing
rtp_sight time port payload None = sight.Rtp (arrival_of time port (packet_of payload))

abbrev pub rtcp_sight : ℕ → Result (List Rtcp) RtcpFault → Sight
rtcp_sight port (Ok packets) = sight.Compound port
rtcp_sight port (Err fault) = sight.Nothing

abbrev pub payload_sight : ℕ → ℕ → List ℕ → Sight
payload_sight time port payload =
    if is_rtcp payload then rtcp_sight port (compound_of payload)
    else rtp_sight time port payload (first_fault payload)

abbrev pub datagram_sight : ℕ → Result Sent Skip → Sight
datagram_sight time (Err why) = sight.Nothing
datagram_sight time (Ok sent) = payload_sight time sent.to.port sent.payload

-- what a record brings
unfoldable pub sight_of : Timed → Sight
sight_of r = datagram_sight r.time (datagram_of r.captured)

-- what records bring, the latest first
unfoldable pub sights_of : List Record → List Sight
sights_of records = reverse (map sight_of (at_times records))

-- ---- the packets and the compounds among them

abbrev pub as_arrival : Sight → Option Arrival
as_arrival (sight.Rtp arrival) = Some arrival
as_arrival other = None

abbrev pub as_compound : Sight → Option ℕ
as_compound (sight.Compound port) = Some port
as_compound other = None

abbrev pub arrivals_of : List Sight → List Arrival
arrivals_of sights = filter_map as_arrival sights

-- the ports that compounds came to
abbrev pub compounds_of : List Sight → List ℕ
compounds_of sights = filter_map as_compound sights
