use Rattle.std.proofs.Common.{◌≡◌, ◌-◌, ◌*◌, ◌<◌, ◌^◌}
use Rattle.capture_file.specs.Place.{count_of}
use Rattle.command_core.proofs.Progress.{Progress, Took}
use Rattle.command_core.proofs.run.run_command.Given as goal

abbrev pub invariant-records : goal.invariant-records
invariant-records g l =
    record {
      progress : Progress (g.C.Command.output l.fn.command) (Took (g.C.Command.stands l.command) l.clock) (g.F.Files.disk l.fn.files) l.file l.pull (g.F.Files.disk l.files) (g.O.Sink.written l.fn.out) (g.O.Sink.written l.out);
      files : g.F.Files.faults l.files ≡ g.F.Files.faults l.fn.files;
      out : g.O.Sink.faults l.out ≡ g.O.Sink.faults l.fn.out;
      output : g.C.Command.output l.command ≡ g.C.Command.output l.fn.command;
      count : g.C.Command.count l.command ≡ count_of l.file;
      reached : g.C.Command.reached l.command ≡ l.clock.time;
      small : l.clock.time < 2 ^ 32 * 1000000000;
      ready : g.C.Command.ready l.command;
    }

abbrev pub decreases-records : goal.decreases-records
decreases-records g l = 100000000 - count_of l.file
