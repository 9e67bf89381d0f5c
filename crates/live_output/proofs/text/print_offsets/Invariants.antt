use Rattle.std.proofs.Common.{◌≡◌, take}
use Rattle.rtp_io.specs.Outside.{Adds}
use Rattle.live_output.specs.Numbered.{flat_map_from}
use Rattle.live_output.specs.Text.{offset_text}
use Rattle.live_output.proofs.text.print_offsets.Given as goal

abbrev pub invariant-loop-clock : goal.invariant-loop-clock
invariant-loop-clock g l =
    record {
      written : Adds (flat_map_from (λ i. offset_text l.clocks) 0 (take l.clock-index l.clocks))
          (g.O.Sink.written l.fn.out) (g.O.Sink.written l.out);
      faults : g.O.Sink.faults l.out ≡ g.O.Sink.faults l.fn.out;
    }
