use Rattle.std.proofs.Common.{◌≡◌, take}
use Rattle.std.specs.List.{AllByRecursion}
use Rattle.rtcp_wire.specs.Written.{compound_bytes, InRange}
use Rattle.rtcp_wire.proofs.writing.write_packets.Given as goal

abbrev pub invariant-loop-packet : goal.invariant-loop-packet
invariant-loop-packet l = (l.out.items ≡ compound_bytes (take l.packet-index l.list)) × AllByRecursion InRange (take l.packet-index l.list)
