use Rattle.std.proofs.Common.{◌≡◌, [], take, drop, Ok}
use Rattle.std.specs.Prelude.{map}
use Rattle.replay_model.specs.Inputs.{OfScript}
use Rattle.bin_core.specs.Words.{records_of, time_of}
use Rattle.command_core.specs.Taken.{AddsMore}
use Rattle.replay_command.specs.Rendered.{style_of}
use Rattle.replay_command.specs.Plays.{AreItems, IsReady, PlaysMore, time_behind}
use Rattle.replay_command.proofs.player.Player.give_items.Given as goal

abbrev pub invariant-loop-item : goal.invariant-loop-item
invariant-loop-item g l =
    record {
      style : style_of l.self.rendering ≡ style_of l.fn.self.rendering;
      records : records_of l.self.bin ≡ records_of l.fn.self.bin;
      time : time_of l.self.bin ≡ time_behind (time_of l.fn.self.bin) (take l.item-index l.items);
      rest : AreItems (time_of l.self.bin) (drop l.item-index l.items);
      ready : IsReady l.self;
      plays : PlaysMore (Ok tt) l.fn.self l.self (map OfScript (take l.item-index l.items)) (g.O.Sink.written l.fn.out) (g.O.Sink.written l.out);
      more : AddsMore [] (g.O.Sink.written l.fn.out) (g.O.Sink.written l.out);
      faults : g.O.Sink.faults l.out ≡ g.O.Sink.faults l.fn.out;
    }
