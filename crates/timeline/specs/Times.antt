-- The records of a capture at their times.
use Rattle.std.specs.Prelude.{ℕ, ◌-◌, List, [], ◌∷◌, ◌++◌, max}
use Rattle.pcap_file.specs.Capture.{Record}

-- a record of a capture and the time that it comes at, in nanoseconds
pub record Timed : Type 0 where
  pub time : ℕ
  pub captured : Record

-- time 0 is the stamp of the first record
abbrev pub first_stamp : List Record → ℕ
first_stamp [] = 0
first_stamp (r ∷ rs) = r.stamp

-- the greatest of the records' stamps, each less this one; 0 where none is later
abbrev pub greatest_since : ℕ → List Record → ℕ
greatest_since first [] = 0
greatest_since first (r ∷ rs) = max (r.stamp - first) (greatest_since first rs)

-- the time that these records have come to
abbrev pub time_after : List Record → ℕ
time_after rs = greatest_since (first_stamp rs) rs

-- a record after these ones
abbrev pub timed_after : List Record → Record → Timed
timed_after before r = record { time = time_after (before ++ r ∷ []); captured = r }

abbrev pub at_times_after : List Record → List Record → List Timed
at_times_after before [] = []
at_times_after before (r ∷ rs) = timed_after before r ∷ at_times_after (before ++ r ∷ []) rs

-- each record comes at the greatest of the stamps up to its own, less the first one
abbrev pub at_times : List Record → List Timed
at_times rs = at_times_after [] rs
