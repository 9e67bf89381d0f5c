use Rattle.std.proofs.Common.{sym}
use Rattle.rtp_wire.specs.Written.{packet_with}
use Rattle.rtp_wire.proofs.tests.written.Goals as goal

pub unreachable-requires : goal.unreachable-requires
unreachable-requires c = c.in-Err.ensures.only (packet_with c.args.fields.now c.in_ok-blob.blob) c.in_ok-blob.ensures.packet (sym c.bytes.ensures)
