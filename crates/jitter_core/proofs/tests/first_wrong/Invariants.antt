use Rattle.std.proofs.Common.{◌≡◌}
use Rattle.jitter_core.specs.Words.{settings_of}
use Rattle.jitter_core.proofs.tests.first_wrong.Given as goal

abbrev pub invariant-loop-place : goal.invariant-loop-place
invariant-loop-place g l = (settings_of l.buffer).pushers ≡ 257
