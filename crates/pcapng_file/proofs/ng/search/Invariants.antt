use Rattle.std.proofs.Common.{◌≡◌, ◌≤◌, ◌-◌, [], length}
use Rattle.pcapng_file.specs.Reading.{PassesBlocks}
use Rattle.pcapng_file.proofs.ng.search.Given as goal

abbrev pub invariant-loop-record : goal.invariant-loop-record
invariant-loop-record g l = record {
  bound : length l.initial.pull ≤ 262160 → length l.pull ≤ 262160;
  passed : PassesBlocks l.initial.mark l.mark [] l.initial.pull l.pull
      (g.F.Files.disk l.initial.files) (g.F.Files.disk l.files);
  faults : g.F.Files.faults l.files ≡ g.F.Files.faults l.initial.files;
}

abbrev pub decreases-loop-record : goal.decreases-loop-record
decreases-loop-record g l = 200000000 - l.mark.blocks
