use Rattle.std.proofs.Common.{arith}
use Rattle.front_model.specs.Given.{name_asks}
use Rattle.rtp_session.proofs.Calling.{one_more}
use Rattle.rtp_session.proofs.compound.hear_names.Goals as goal

pub loop-packet-preserved : goal.loop-packet-preserved
loop-packet-preserved c =
    one_more name_asks c.args.packets.now c.loop-packet.packet-index c.packet-item.result c.args.sources.now c.loop-packet.sources c.hear_descriptions.new.sources c.args.notes.now.items c.loop-packet.notes.items c.hear_descriptions.new.notes.items
    (omega arith) c.packet-item.is c.loop-packet.invariant c.in_ok-hear_descriptions.ensures
