use Rattle.std.proofs.Common.{◌≡◌, drop}
use Rattle.rtp_io.specs.Memory.{find}
use Rattle.rtp_io.proofs.shelf.Shelf.place_of.Given as goal

abbrev pub invariant-loop-place : goal.invariant-loop-place
invariant-loop-place l = find (drop l.place l.self.entries.items) l.name ≡ find l.self.entries.items l.name
