use Rattle.std.proofs.Common.{◌≡◌, ◌-◌, ◌≤◌, length}
use Rattle.rtcp_wire.specs.Sdes.{items_at}
use Rattle.rtcp_wire.proofs.Chunks.{with_items}
use Rattle.rtcp_wire.proofs.sdes.read_items.Given as goal

abbrev pub invariant-loop : goal.invariant-loop
invariant-loop l = (with_items l.items (items_at (l.steps - l.counter) l.rest) ≡ items_at l.steps l.bytes) × (length l.rest ≤ length l.bytes)
