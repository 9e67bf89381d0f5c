-- The greatest number is near the lowest.
use Rattle.std.proofs.Common.{ℕ, ◌≡◌, ◌+◌, ◌<◌, refl, Option, None, Some}
use Rattle.std.specs.Prelude.{unwrap_or}
use Rattle.jitter_model.specs.Turns.{low}
use Rattle.jitter_core.specs.declared.state.State.{State}
use Rattle.jitter_core.specs.Steps.{IsBounded}
use Rattle.jitter_core.specs.Turning.{state_sight}

near_by : (s : State) (o : Option ℕ) → s.span.next ≡ o → IsBounded s → unwrap_or s.span.top 0 < low (state_sight s) o + 8192
near_by s None e b = b.first_window e
near_by s (Some n) e b = b.window n e

-- the greatest number is near the lowest
pub near : (s : State) → IsBounded s → unwrap_or s.span.top 0 < low (state_sight s) s.span.next + 8192
near s b = near_by s s.span.next refl b
