use Rattle.std.proofs.Common.{◌≡◌, [], take, Ok}
use Rattle.command_core.specs.Taken.{AddsMore}
use Rattle.replay_command.specs.Rendered.{Renders, style_of}
use Rattle.replay_command.proofs.player.tell.Given as goal

abbrev pub invariant-loop-line : goal.invariant-loop-line
invariant-loop-line g l =
    record {
      style : style_of l.rendering ≡ style_of l.fn.rendering;
      renders : Renders (Ok tt) l.fn.rendering l.rendering (take l.line-index l.lines) (g.O.Sink.written l.fn.out) (g.O.Sink.written l.out);
      more : AddsMore [] (g.O.Sink.written l.fn.out) (g.O.Sink.written l.out);
      faults : g.O.Sink.faults l.out ≡ g.O.Sink.faults l.fn.out;
    }
