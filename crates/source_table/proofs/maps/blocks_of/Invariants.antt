use Rattle.std.proofs.Common.{◌≡◌, take}
use Rattle.std.specs.Prelude.{filter_map}
use Rattle.source_table.specs.Sources.{block_of}
use Rattle.source_table.proofs.maps.blocks_of.Given as goal

abbrev pub invariant-loop-i : goal.invariant-loop-i
invariant-loop-i l = l.blocks.items ≡ filter_map (λ e. block_of e.1 e.0 l.now) (take l.i l.sources.entries)
