-- What a state goes by in requests.
use Rattle.std.specs.Prelude.{ℕ, ◌+◌, ◌-◌, ◌==◌, List, Option, None, nat_lt, if◌then◌else◌}
use Rattle.jitter_model.specs.declared.Settings.{Settings}
use Rattle.jitter_model.specs.Requests.{lesser, later, due, Wanted, Asked}
use Rattle.jitter_model.specs.Turns.{least_from}
use Rattle.jitter_core.specs.declared.peaks.Peak.{Peak}
use Rattle.jitter_core.specs.declared.requesting.Wish.{Wish}
use Rattle.jitter_core.specs.declared.requesting.Due.{Due}
use Rattle.jitter_core.specs.Peaks.{stamp_from}

-- when the first request for a missing number is due, by the peaks
abbrev pub first_due_by : Settings → List Peak → ℕ → Option ℕ
first_due_by s ps n = lesser (later s.rtx_delay (stamp_from ps (n + 1))) (if s.reorder == 0 then None else stamp_from ps (n + s.reorder))

-- the first of the unserved requests that isn't due at a time, or one past the last request
abbrev pub undue_at : Settings → ℕ → ℕ → ℕ → ℕ
undue_at s time first served = least_from (λ k. nat_lt time (due s first k)) served (s.rtx_max + 1 - served)

-- the requests of a number
abbrev pub wanted_of : Wish → Wanted
wanted_of w = record { first = w.first; limit = w.limit }

-- a request that is due
abbrev pub asked_of : Due → Asked
asked_of d = record { time = d.time; number = d.number; k = d.k }
