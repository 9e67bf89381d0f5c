-- In which order things happen.
use Rattle.std.specs.Prelude.{ℕ, ◌≤◌, List, [], ◌∷◌}
use Rattle.front_model.specs.Events.{FrontEvent, Came, ReportsDue, Requested}
use Rattle.timeline.specs.Times.{Timed}
use Rattle.replay_model.specs.Inputs.{Input, OfCapture, OfScript}
use Rattle.replay_model.specs.Events.{Timeline, event_time, latest}

-- nothing happened behind something later
abbrev pub IsInOrder : Timeline → Type 0
IsInOrder [] = Unit {0}
IsInOrder (e ∷ tl) = (latest tl ≤ event_time e) × IsInOrder tl

abbrev pub input_time : Input → ℕ
input_time (OfCapture r) = r.time
input_time (OfScript i) = i.time

-- the time of the last input, or 0; the newest stands first
abbrev pub last_time : List Input → ℕ
last_time [] = 0
last_time (x ∷ older) = input_time x

-- inputs in order of time, the newest of which is the first
abbrev pub AreInOrder : List Input → Type 0
AreInOrder [] = Unit {0}
AreInOrder (x ∷ older) = (last_time older ≤ input_time x) × AreInOrder older

-- the records that came to a front, each at its time
abbrev pub came : List FrontEvent → List Timed
came [] = []
came (Came t r ∷ older) = record { time = t; captured = r } ∷ came older
came (ReportsDue t ∷ older) = came older
came (Requested r ∷ older) = came older
