use Rattle.std.proofs.Common.{◌≡◌, ◌≤◌, [], false, Ok}
use Rattle.bin_core.specs.Words.{records_of, time_of, is_finished, due_left}
use Rattle.command_core.specs.Taken.{AddsMore}
use Rattle.replay_command.specs.Plays.{PlaysUpTo}
use Rattle.replay_command.specs.Rendered.{style_of}
use Rattle.replay_command.proofs.player.Player.advance.Given as goal

abbrev pub invariant-due : goal.invariant-due
invariant-due g l =
    record {
      style : style_of l.self.rendering ≡ style_of l.fn.self.rendering;
      records : records_of l.self.bin ≡ records_of l.fn.self.bin;
      running : is_finished l.self.bin ≡ false;
      time : time_of l.self.bin ≤ l.time;
      none : l.self.lines ≡ [];
      plays : PlaysUpTo (Ok tt) l.time l.fn.self l.self (g.O.Sink.written l.fn.out) (g.O.Sink.written l.out);
      more : AddsMore [] (g.O.Sink.written l.fn.out) (g.O.Sink.written l.out);
      faults : g.O.Sink.faults l.out ≡ g.O.Sink.faults l.fn.out;
    }

abbrev pub decreases-due : goal.decreases-due
decreases-due g l = due_left l.time l.self.bin
