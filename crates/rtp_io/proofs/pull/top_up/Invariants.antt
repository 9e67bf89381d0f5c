use Rattle.std.proofs.Common.{◌≡◌, ◌≤◌, ◌-◌, length}
use Rattle.rtp_io.specs.Pulled.{Keeps}
use Rattle.rtp_io.proofs.Pulling.{held}
use Rattle.rtp_io.proofs.pull.top_up.Given as goal

abbrev pub invariant-loop-end : goal.invariant-loop-end
invariant-loop-end g l = record {
  order : l.initial.end ≤ l.end;
  bound : l.end ≤ length l.buf;
  kept : Keeps (held l.start l.initial.end l.initial.buf) (held l.start l.end l.buf) (g.F.Files.disk l.initial.files) (g.F.Files.disk l.files);
  lazy : l.n ≤ l.initial.end - l.start → g.F.Files.disk l.files ≡ g.F.Files.disk l.initial.files;
  faults : g.F.Files.faults l.files ≡ g.F.Files.faults l.initial.files;
}

abbrev pub decreases-loop-end : goal.decreases-loop-end
decreases-loop-end g l = l.n - (l.end - l.start)
