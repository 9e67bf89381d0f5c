-- What has become of a sender of retransmissions.
use Rattle.std.specs.Prelude.{◌≤◌, List, [], ◌∷◌, length, ⊤}
use Rattle.std.specs.List.{AllByRecursion}
use Rattle.pcap_file.specs.Datagrams.{Sent}
use Rattle.pcap_file.specs.declared.udp.Datagram.{Datagram}
use Rattle.rtp_wire.specs.Packet.{IsPacket}
use Rattle.script_lang.specs.declared.script.SessionLine.{SessionLine}
use Rattle.rtx.specs.Answering as history
use Rattle.rtx.specs.Answering.{Call, Remembers, Answers}
use Rattle.rtx.specs.Sending.{Sending}
use Rattle.front_model.specs.Records.{Holding, Packet}
use Rattle.nack_answering.specs.Answering.{Rules}

-- the sessions, and the history of the packets that came to them
pub record State : Type 0 where
  pub sessions : List SessionLine
  pub history : Sending

abbrev pub rules_in : State → Rules
rules_in x = record { sessions = x.sessions; setting = x.history.setting }

-- A packet is as long as the payload of a datagram may be.
abbrev pub IsSmall : Call → Type 0
IsSmall (Remembers session p) = IsPacket p × (length p.bytes ≤ 9216)
IsSmall (Answers session ssrc seq) = ⊤

-- The history went through these calls, the latest first.
pub record StandsFor (x : State) (calls : List Call) : Type 0 where
  pub history : history.StandsFor x.history x.history.setting calls
  pub small : AllByRecursion IsSmall calls

-- of what a record holds, the packet that is to be remembered
abbrev pub remembered_in : Holding → List Call
remembered_in (Packet session from p) = Remembers session p ∷ []
remembered_in other = []

-- a datagram without where its payload lies in memory
abbrev pub sent_as : Datagram → Sent
sent_as d = record { from = d.from; to = d.to; payload = d.payload.now }
