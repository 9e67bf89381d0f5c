use Rattle.std.proofs.Common.{◌≡◌, take}
use Rattle.live_output.specs.Clocks.{clock_of}
use Rattle.live_output.specs.Numbered.{flat_map_from}
use Rattle.live_output.proofs.clocks.clocks.Given as goal

abbrev pub invariant-loop-number : goal.invariant-loop-number
invariant-loop-number l =
    l.clocks.items ≡ flat_map_from (clock_of l.plan) 0 (take l.number l.histories)
