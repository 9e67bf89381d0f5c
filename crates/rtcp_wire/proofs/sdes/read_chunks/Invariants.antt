use Rattle.std.proofs.Common.{◌≡◌, ◌-◌}
use Rattle.rtcp_wire.specs.Sdes.{chunks_at}
use Rattle.rtcp_wire.proofs.Chunks.{with_chunks}
use Rattle.rtcp_wire.proofs.sdes.read_chunks.Given as goal

abbrev pub invariant-loop : goal.invariant-loop
invariant-loop l = with_chunks l.chunks (chunks_at (l.count - l.counter) l.rest) ≡ chunks_at l.count l.body
