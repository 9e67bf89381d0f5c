use Rattle.std.proofs.Common.{◌≡◌, ◌++◌, drop}
use Rattle.rtcp_wire.specs.Nacking.{opens, greedy_behind}
use Rattle.rtcp_wire.proofs.entries.entries_from.Given as goal

abbrev pub invariant-loop-number : goal.invariant-loop-number
invariant-loop-number l = l.list.items ++ greedy_behind l.entry (drop l.number-index l.numbers) ≡ greedy_behind (opens l.first) l.numbers
