use Rattle.std.proofs.Common.{◌≡◌, take}
use Rattle.rtp_io.specs.Outside.{Adds}
use Rattle.unit_log.specs.Text.{texts_of}
use Rattle.replay_command.proofs.rendering.print_all.Given as goal

abbrev pub invariant-loop-line : goal.invariant-loop-line
invariant-loop-line g l =
    record {
      written : Adds (texts_of (take l.line-index l.lines)) (g.O.Sink.written l.fn.out) (g.O.Sink.written l.out);
      faults : g.O.Sink.faults l.out ≡ g.O.Sink.faults l.fn.out;
    }
