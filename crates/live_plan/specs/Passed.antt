-- The records that a clock has passed.
use Rattle.std.specs.Prelude.{◌≡◌, ℕ, List, [], ◌∷◌, Option, Some, None}
use Rattle.pcap_file.specs.Capture.{Record}
use Rattle.timeline.specs.Times.{time_after}
use Rattle.live_plan.specs.declared.clock.RecordClock.{RecordClock}

-- the stamp of the first record
abbrev pub first_of : List Record → Option ℕ
first_of [] = None
first_of (r ∷ rs) = Some r.stamp

-- The clock has passed these records.
pub record HasPassed (clock : RecordClock) (seen : List Record) : Type 0 where
  pub first : clock.first ≡ first_of seen
  pub time : clock.time ≡ time_after seen
