use Rattle.rtp_wire.proofs.Packets.{only_packet}
use Rattle.rtp_wire.proofs.laws.packets_are_their_bytes.Goals as goal

pub returns : goal.returns
returns c = λ p h. let only = only_packet p h in (only.fits, only.fields)
