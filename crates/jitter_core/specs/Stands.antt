-- The histories that a buffer's state stands for.
use Rattle.std.specs.Prelude.{ℕ, ◌≡◌, ◌&&◌, not, Bool, false, List, [], length, Option, None, slice_index_or, if◌then◌else◌}
use Rattle.jitter_model.specs.declared.Arrival.{Arrival}
use Rattle.jitter_model.specs.History.{History, now, pushes, latency, is_flushing, has_ended, end_told}
use Rattle.jitter_model.specs.Accepted.{Taken, aside, accepted}
use Rattle.jitter_model.specs.Covered.{next, is_out, served}
use Rattle.jitter_model.specs.Runs.{Run}
use Rattle.jitter_core.specs.declared.state.State.{State}
use Rattle.jitter_core.specs.Asides.{in_order}
use Rattle.jitter_core.specs.Parts.{Placed, Clocked, Marked, Requested}

-- the accepted packets that count: none while a flush runs
abbrev pub live : History → List Taken
live h = if is_flushing h then [] else accepted h

-- the packets that are put aside: none while a flush runs
abbrev pub live_aside : History → List Arrival
live_aside h = if is_flushing h then [] else aside h

-- the next number: unknown while a flush runs
abbrev pub live_next : History → Option ℕ
live_next h = if is_flushing h then None else next h

-- whether the packet of a number was given out in the segment
abbrev pub live_out : History → ℕ → Bool
live_out h n = not (is_flushing h) && is_out h n

-- what the buffer knows of pushes, time, flushes and pushers; the numbers and the held packets of the segment; and the packets that are put aside
pub record Order (s : State) (h : History) : Type 0 where
  pub pushes_are : s.progress.pushes ≡ pushes h
  pub time_is : s.progress.time ≡ now h
  pub latency_is : s.progress.latency ≡ latency s.settings h
  pub flushing_is : s.progress.flushing ≡ is_flushing h
  pub ended_long : length s.progress.ended ≡ 9
  pub ended_are : (p : ℕ) → slice_index_or s.progress.ended p false ≡ has_ended h p
  pub told_is : s.progress.end_told ≡ end_told h
  pub placed : Placed s (live h) (live_next h) (live_out h)
  pub aside_is : s.aside ≡ in_order (live_aside h)

-- the estimator stands for the segment's heights
pub record Skew (s : State) (h : History) : Type 0 where
  pub clocked : Clocked s (live h)

-- the time of the segment's first packet, the heights from the greatest one that isn't above the next number, and the last two heights, each with its time
pub record Times (s : State) (h : History) : Type 0 where
  pub marked : Marked s (live h) (live_next h)

-- how many requests of a number were served in the segment: none while a flush runs
abbrev pub live_served : History → ℕ → ℕ
live_served h n = if is_flushing h then 0 else served h n

-- the number and stamp of each accepted packet of the segment that was greater than all before it and is above the next number; and how many requests of each number from the next one on were served. Where the next number isn't known, of all
pub record Requests (s : State) (h : History) : Type 0 where
  pub requested : Requested s (live h) (live_next h) (live_served h)

-- the history is a run, and the state has what its replies need
pub record StandsFor (s : State) (h : History) : Type 0 where
  pub run : Run s.settings h
  pub order : Order s h
  pub skew : Skew s h
  pub times : Times s h
  pub requests : Requests s h

-- a state that stands for some history
abbrev pub IsReached : State → Type 0
IsReached s = ∥ ((h : History) × StandsFor s h) ∥₁
