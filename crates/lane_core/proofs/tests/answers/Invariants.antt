use Rattle.std.proofs.Common.{◌≡◌}
use Rattle.jitter_core.specs.Words.{settings_of}
use Rattle.lane_core.proofs.tests.answers.Given as goal

-- the lane keeps its pushers
abbrev pub invariant-loop-call : goal.invariant-loop-call
invariant-loop-call l = (settings_of l.lane.buffer).pushers ≡ 257
