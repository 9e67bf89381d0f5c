use Rattle.std.proofs.Common.{◌-◌, length, arith}
use Rattle.std.proofs.lemmas.Result.{err_from_is_err_and}
use Rattle.rtcp_wire.specs.Compound.{packets_at}
use Rattle.rtcp_wire.proofs.Runs.{headed, headers_still, packets_go, packets_end, packets_fail, packets_none_left}
use Rattle.rtcp_wire.proofs.compound.read_packets.Goals as goal

pub read_packet-requires : goal.read_packet-requires
read_packet-requires c = headed (length c.args.bytes.now - c.loop.counter) c.loop.offset c.loop.rest.now c.loop.invariant.0

pub returns-in_err-packet : goal.returns-in_err-packet
returns-in_err-packet c =
    let p = err_from_is_err_and c.from_residual.result c.from_residual.ensures.1 in
    rw (p.1, p.2) (packets_fail c.in_err-packet.field-0.0 c.loop.packets.items (length c.args.bytes.now) c.loop.counter c.loop.offset c.loop.rest.now (packets_at (length c.args.bytes.now) 0 c.args.bytes.now) (omega arith) c.loop.invariant.1 c.in_err-packet.ensures)

pub packet_size-size-requires : goal.packet_size-size-requires
packet_size-size-requires c = (headed (length c.args.bytes.now - c.loop.counter) c.loop.offset c.loop.rest.now c.loop.invariant.0).long

pub returns-then-size-rest : goal.returns-then-size-rest
returns-then-size-rest c =
    rw c.in_ok-push.ensures.items (packets_end c.loop.packets.items (length c.args.bytes.now) c.loop.counter c.loop.offset c.packet_size-size.result c.loop.rest.now c.in_ok-packet.packet (packets_at (length c.args.bytes.now) 0 c.args.bytes.now) (omega arith) c.in_ok-packet.ensures c.packet_size-size.ensures.value c.if-size-rest.true c.loop.invariant.1)

pub split_at-requires : goal.split_at-requires
split_at-requires c = omega (arith, (headed (length c.args.bytes.now - c.loop.counter) c.loop.offset c.loop.rest.now c.loop.invariant.0).whole, c.packet_size-size.ensures.value)

pub loop-preserved : goal.loop-preserved
loop-preserved c = (
  rw c.split_at.ensures.back (headers_still (length c.args.bytes.now) c.loop.counter c.loop.offset c.packet_size-size.result c.loop.rest.now (omega arith) c.packet_size-size.ensures.value c.if-size-rest.false c.loop.invariant.0),
  rw (c.split_at.ensures.back, c.in_ok-push.ensures.items) (packets_go c.loop.packets.items (length c.args.bytes.now) c.loop.counter c.loop.offset c.packet_size-size.result c.loop.rest.now c.in_ok-packet.packet (packets_at (length c.args.bytes.now) 0 c.args.bytes.now) (omega arith) c.in_ok-packet.ensures c.packet_size-size.ensures.value c.if-size-rest.false c.loop.invariant.1),
  omega (arith, c.split_at.ensures.back_len, c.loop.invariant.2),
)

pub returns : goal.returns
returns c = packets_none_left c.loop.packets.items (length c.args.bytes.now) c.loop.counter c.loop.offset c.loop.rest.now (packets_at (length c.args.bytes.now) 0 c.args.bytes.now) (omega arith) c.loop.invariant.1
