use Rattle.std.proofs.Common.{◌≡◌, take}
use Rattle.rtp_io.specs.Outside.{Adds}
use Rattle.live_output.specs.Text.{histories_text}
use Rattle.live_output.proofs.text.print_histories.Given as goal

abbrev pub invariant-loop-number : goal.invariant-loop-number
invariant-loop-number g l =
    record {
      written : Adds (histories_text l.hex l.plan (take l.number l.histories))
          (g.O.Sink.written l.fn.out) (g.O.Sink.written l.out);
      faults : g.O.Sink.faults l.out ≡ g.O.Sink.faults l.fn.out;
    }
