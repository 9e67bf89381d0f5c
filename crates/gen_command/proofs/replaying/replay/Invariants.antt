use Rattle.std.proofs.Common.{◌≡◌, ◌<◌, ◌*◌, ◌^◌, length, false}
use Rattle.bin_core.specs.Words.{time_of, ahead_of, is_finished}
use Rattle.gen_command.proofs.Taking.{Came}
use Rattle.gen_command.proofs.replaying.replay.Given as goal

abbrev pub invariant-records : goal.invariant-records
invariant-records l = record {
  came : Came l.initial.capture l.capture l.bin l.clock;
  time : time_of l.bin ≡ l.clock.time;
  small : l.clock.time < 2 ^ 32 * 1000000000;
  level : ahead_of l.bin ≡ false;
  running : is_finished l.bin ≡ false;
}

abbrev pub decreases-records : goal.decreases-records
decreases-records l = length l.capture
