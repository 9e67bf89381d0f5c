use Rattle.std.specs.Prelude.{◌≡◌, ◌<◌, ◌≤◌, ◌-◌, true, length}
use Rattle.bin_core.specs.Touching.{is_listed}
use Rattle.bin_core.specs.Underway.{StaysAtRest}
use Rattle.bin_core.proofs.Ticking.{TicksBelow}
use Rattle.bin_core.proofs.stage.Stage.tick_listed.Given as goal

abbrev pub invariant-loop-number : goal.invariant-loop-number
invariant-loop-number l = record {
  ticked : TicksBelow l.time l.touched l.number l.initial.self l.self l.initial.lines l.lines;
  count : length l.self.lanes.items ≡ length l.initial.self.lanes.items;
  stays : StaysAtRest l.initial.self l.self;
  within : l.number ≤ l.end;
  listed : l.number < l.end → is_listed l.touched l.number ≡ true;
}

abbrev pub decreases-loop-number : goal.decreases-loop-number
decreases-loop-number l = l.end - l.number
