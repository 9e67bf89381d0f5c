use Rattle.std.proofs.Common.{◌≡◌, ◌+◌, ◌-◌, length}
use Rattle.rtcp_wire.specs.Compound.{headers_fault}
use Rattle.rtcp_wire.proofs.compound.check_headers.Given as goal

abbrev pub invariant-loop : goal.invariant-loop
invariant-loop l =
    (headers_fault (l.steps - l.counter) l.offset l.rest ≡ headers_fault (length l.bytes) 0 l.bytes) × (l.offset + length l.rest ≡ length l.bytes)
