use Rattle.std.proofs.Common.{◌≡◌, ◌++◌, take}
use Rattle.rtcp_wire.specs.Written.{numbers_bytes}
use Rattle.rtcp_wire.proofs.pieces.push_numbers.Given as goal

abbrev pub invariant-loop-number : goal.invariant-loop-number
invariant-loop-number l = l.out.items ≡ l.fn.out.items ++ numbers_bytes (take l.number-index l.numbers)
