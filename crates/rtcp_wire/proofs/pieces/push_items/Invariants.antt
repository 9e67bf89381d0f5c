use Rattle.std.proofs.Common.{◌≡◌, ◌++◌, take}
use Rattle.rtcp_wire.specs.Written.{items_bytes}
use Rattle.rtcp_wire.proofs.pieces.push_items.Given as goal

abbrev pub invariant-loop-item : goal.invariant-loop-item
invariant-loop-item l = l.out.items ≡ l.fn.out.items ++ items_bytes (take l.item-index l.items)
