use Rattle.std.proofs.Common.{◌≡◌}
use Rattle.jitter_core.specs.Words.{settings_of}
use Rattle.jitter_core.proofs.tests.after_the_window.Given as goal

abbrev pub invariant-loop-i : goal.invariant-loop-i
invariant-loop-i g l = (settings_of l.buffer).pushers ≡ 257
