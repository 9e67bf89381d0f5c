use Rattle.std.proofs.Common.{sym}
use Rattle.rtx.specs.Restoring.{restored_packet}
use Rattle.rtp_front.proofs.streams.restored_packet.Goals as goal

pub unreachable-requires : goal.unreachable-requires
unreachable-requires c =
    c.in-Err.ensures.only
    (restored_packet c.requires.0 c.args.kept.now.packet c.args.restored.bytes)
    c.requires.1.packet (sym c.bytes.ensures)
