use Rattle.std.proofs.Common.{◌≡◌, ◌++◌, take}
use Rattle.std.specs.List.{flat_map, AllByRecursion}
use Rattle.rtcp_wire.specs.Written.{chunk_bytes, ChunkInRange}
use Rattle.rtcp_wire.proofs.pieces.push_chunks.Given as goal

abbrev pub invariant-loop-chunk : goal.invariant-loop-chunk
invariant-loop-chunk l = (l.out.items ≡ l.fn.out.items ++ flat_map chunk_bytes (take l.chunk-index l.chunks)) × AllByRecursion ChunkInRange (take l.chunk-index l.chunks)
