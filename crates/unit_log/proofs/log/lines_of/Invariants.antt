use Rattle.std.proofs.Common.{◌≡◌, map}
use Rattle.unit_log.specs.Lines.{line_of}
use Rattle.unit_log.proofs.log.lines_of.Given as goal

abbrev pub invariant-loop-outcome : goal.invariant-loop-outcome
invariant-loop-outcome l = l.lines.items ≡ map (line_of l.time l.lane) l.yielded
