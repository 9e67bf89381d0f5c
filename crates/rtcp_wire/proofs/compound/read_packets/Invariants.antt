use Rattle.std.proofs.Common.{◌≡◌, ◌+◌, ◌-◌, length, None}
use Rattle.rtcp_wire.specs.Compound.{headers_fault, packets_at}
use Rattle.rtcp_wire.proofs.Runs.{with_front}
use Rattle.rtcp_wire.proofs.compound.read_packets.Given as goal

abbrev pub invariant-loop : goal.invariant-loop
invariant-loop l =
    (headers_fault (l.steps - l.counter) l.offset l.rest ≡ None)
    × (with_front l.packets.items (packets_at (l.steps - l.counter) l.offset l.rest) ≡ packets_at (length l.bytes) 0 l.bytes) × (l.offset + length l.rest ≡ length l.bytes)
