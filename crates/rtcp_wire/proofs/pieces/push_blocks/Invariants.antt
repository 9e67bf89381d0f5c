use Rattle.std.proofs.Common.{◌≡◌, ◌++◌, take}
use Rattle.std.specs.List.{flat_map, AllByRecursion}
use Rattle.rtcp_wire.specs.Written.{block_bytes, BlockInRange}
use Rattle.rtcp_wire.proofs.pieces.push_blocks.Given as goal

abbrev pub invariant-loop-block : goal.invariant-loop-block
invariant-loop-block l = (l.out.items ≡ l.fn.out.items ++ flat_map block_bytes (take l.block-index l.blocks)) × AllByRecursion BlockInRange (take l.block-index l.blocks)
