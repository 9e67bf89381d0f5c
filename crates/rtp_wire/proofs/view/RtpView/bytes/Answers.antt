use Rattle.std.proofs.Common.{subst}
use Rattle.rtp_wire.specs.Packet.{Packet, IsPacket}
use Rattle.rtp_wire.proofs.Packets.{is_packet}
use Rattle.rtp_wire.proofs.view.RtpView.bytes.Goals as goal

pub returns-clause-packet : goal.returns-clause-packet
returns-clause-packet c = subst (λ (p : Packet). IsPacket p) c.self.view_is (is_packet c.self.inside.bytes.now c.self.inside.header_end c.self.inside.padding c.self.invariant)
