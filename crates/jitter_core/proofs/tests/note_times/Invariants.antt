use Rattle.std.proofs.Common.{◌≡◌}
use Rattle.jitter_core.specs.Words.{settings_of}
use Rattle.jitter_core.proofs.tests.note_times.Given as goal

abbrev pub invariant-loop : goal.invariant-loop
invariant-loop g l = (settings_of l.buffer).pushers ≡ 257
