use Rattle.std.proofs.Common.{◌≡◌, ◌++◌, take}
use Rattle.std.specs.List.{flat_map, AllByRecursion}
use Rattle.rtcp_wire.specs.Written.{entry_bytes, EntryInRange}
use Rattle.rtcp_wire.proofs.pieces.push_entries.Given as goal

abbrev pub invariant-loop-entry : goal.invariant-loop-entry
invariant-loop-entry l = (l.out.items ≡ l.fn.out.items ++ flat_map entry_bytes (take l.entry-index l.entries)) × AllByRecursion EntryInRange (take l.entry-index l.entries)
