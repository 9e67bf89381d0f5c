use Rattle.std.proofs.Common.{◌≡◌, ◌-◌, ◌≤◌}
use Rattle.capture_file.specs.Place.{count_of}
use Rattle.live_command.specs.declared.load.TheConstants.{MAX_BYTES}
use Rattle.live_command.specs.Loaded.{count_of as taken_by}
use Rattle.live_command.proofs.Progress.{Progress}
use Rattle.live_command.proofs.reading.read_plan.Given as goal

abbrev pub invariant-records : goal.invariant-records
invariant-records g l =
    record {
      progress : Progress l.script (g.F.Files.disk l.fn.files) l.file l.pull
          (g.F.Files.disk l.files) l.load;
      files : g.F.Files.faults l.files ≡ g.F.Files.faults l.fn.files;
      count : taken_by l.load ≡ count_of l.file;
      room : l.load.included ≤ MAX_BYTES;
    }

abbrev pub decreases-records : goal.decreases-records
decreases-records g l = 100000000 - count_of l.file
