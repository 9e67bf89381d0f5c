use Rattle.std.proofs.Common.{◌≡◌, take}
use Rattle.rtp_io.specs.Outside.{Adds}
use Rattle.live_text.specs.Text.{entry_text}
use Rattle.live_output.specs.Numbered.{flat_map_from}
use Rattle.live_output.proofs.text.print_entries.Given as goal

abbrev pub invariant-loop-index : goal.invariant-loop-index
invariant-loop-index g l =
    record {
      written : Adds (flat_map_from (entry_text l.hex) 0 (take l.index l.entries))
          (g.O.Sink.written l.fn.out) (g.O.Sink.written l.out);
      faults : g.O.Sink.faults l.out ≡ g.O.Sink.faults l.fn.out;
    }
