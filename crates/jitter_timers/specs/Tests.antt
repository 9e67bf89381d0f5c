-- What the tests keep of a queue.
use Rattle.std.specs.Prelude.{◌≡◌, ℕ, ◌<◌, IsSome}
use Rattle.std.specs.FinMap as map
use Rattle.jitter_timers.specs.Timers.{Timers}

-- there is room for 16 numbers, and all are lower
pub record IsLow (q : Timers) : Type 0 where
  pub room : q.room ≡ 16
  pub low : (other : ℕ) → IsSome (map.get q.times other) → other < 16
