-- What comes to a front. Lists of events have the newest first.
use Rattle.std.specs.Prelude.{ℕ, ◌+◌, List, [], ◌∷◌}
use Rattle.pcap_file.specs.Capture.{Record}
use Rattle.rtx.specs.declared.requests.Request.{Request}

-- at a time a record, or the session's reports are due; and a number that a lane asked for again
pub data FrontEvent : Type 0 where
  Came : ℕ → Record → FrontEvent
  ReportsDue : ℕ → FrontEvent
  Requested : Request → FrontEvent

-- how many records came
abbrev pub records : List FrontEvent → ℕ
records [] = 0
records (Came time r ∷ older) = records older + 1
records (e ∷ older) = records older
