use Rattle.std.proofs.Common.{◌≡◌, ◌≤◌, ◌-◌, length}
use Rattle.pcapng_file.specs.Pieces.{TakesPart}
use Rattle.pcapng_file.proofs.pieces.skip.Given as goal

abbrev pub invariant-loop-left : goal.invariant-loop-left
invariant-loop-left g l = record {
  bound : length l.initial.pull ≤ 262160 → length l.pull ≤ 262160;
  few : l.left ≤ l.size;
  part : TakesPart (λ _. Unit {0}) (l.size - l.left) l.initial.pull l.pull
      (g.F.Files.disk l.initial.files) (g.F.Files.disk l.files);
  faults : g.F.Files.faults l.files ≡ g.F.Files.faults l.initial.files;
}

abbrev pub decreases-loop-left : goal.decreases-loop-left
decreases-loop-left g l = l.left
