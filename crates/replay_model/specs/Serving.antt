-- What is due: report times, and the times at which lanes want a turn.
use Rattle.std.specs.Prelude.{ℕ, zero, suc, ◌==◌, ◌+◌, ◌-◌, List, [], ◌∷◌, Bool, true, false, Option, Some, None, nat_lt, nat_le, if◌then◌else◌}
use Rattle.jitter_model.specs.Turns.{turn, wake_of}
use Rattle.script_lang.specs.Contents.{Contents}
use Rattle.front_model.specs.declared.Opening.{Opening}
use Rattle.front_model.specs.Events.{FrontEvent, Came, ReportsDue, Requested}
use Rattle.replay_model.specs.declared.Wake.{Wake}
use Rattle.replay_model.specs.declared.Due.{Due}
use Rattle.replay_model.specs.declared.Due.TheVariants as due
use Rattle.replay_model.specs.Events.{Timeline, front, lane}
use Rattle.replay_model.specs.Turning.{ticked}
use Rattle.replay_model.specs.Taking.{fronted}

-- ---- wakes

-- the time at which a lane wants a turn, if it wants one
abbrev pub wake : (ℕ → Opening) → Timeline → ℕ → Option ℕ
wake o tl l = wake_of (turn (o l).settings (lane l tl))

-- the earlier one; the first of two at one time
abbrev pub with_wake : Option Wake → ℕ → Option ℕ → Option Wake
with_wake first l None = first
with_wake None l (Some time) = Some (record { time = time; lane = l })
with_wake (Some first) l (Some time) =
    if nat_lt time first.time then Some (record { time = time; lane = l }) else Some first

-- the least pair of a time and a lane, among the first lanes
abbrev pub first_wake : (ℕ → Option ℕ) → ℕ → Option Wake
first_wake wakes zero = None
first_wake wakes (suc l) = with_wake (first_wake wakes l) l (wakes l)

-- ---- report times: the multiples of the script's interval, from the first one

-- the last report time, or 0
abbrev pub last_report : List FrontEvent → ℕ
last_report [] = 0
last_report (Came t r ∷ older) = last_report older
last_report (ReportsDue t ∷ older) = t
last_report (Requested r ∷ older) = last_report older

abbrev pub next_report : Contents → Timeline → Option ℕ
next_report c tl =
    if c.settings.report == 0 then None else Some (last_report (front tl) + c.settings.report)

-- At the end no report time is served.
abbrev pub report_time : Contents → Bool → Timeline → Option ℕ
report_time c false tl = None
report_time c true tl = next_report c tl

-- ---- what is due first

-- the earlier one; the report time of two at one time
abbrev pub earlier : Option ℕ → Option Wake → Option Due
earlier None None = None
earlier None (Some w) = Some (due.Turns w)
earlier (Some time) None = Some (due.Reports time)
earlier (Some time) (Some w) =
    if nat_le time w.time then Some (due.Reports time) else Some (due.Turns w)

abbrev pub due_time : Due → ℕ
due_time (due.Reports time) = time
due_time (due.Turns w) = w.time

-- what is due first, where it isn't later than the limit
abbrev pub up_to : ℕ → Option Due → Option Due
up_to limit None = None
up_to limit (Some d) = if nat_le (due_time d) limit then Some d else None

-- what is due first up to a limit, of the reports, or of none, and of the first lanes
abbrev pub first_due : Contents → (ℕ → Opening) → Bool → ℕ → ℕ → Timeline → Option Due
first_due c o reports count limit tl =
    up_to limit (earlier (report_time c reports tl) (first_wake (wake o tl) count))

-- how often something that is due at this time can be served up to the limit, at most: each time it
-- comes to be later
abbrev pub room : ℕ → Option ℕ → ℕ
room limit None = 0
room limit (Some time) = limit + 1 - time

abbrev pub rooms : ℕ → (ℕ → Option ℕ) → ℕ → ℕ
rooms limit wakes zero = 0
rooms limit wakes (suc l) = rooms limit wakes l + room limit (wakes l)

-- ---- serving

-- At a report time the front tells its sessions' reports; at a wake the lane ticks.
abbrev pub serve_one : Contents → (ℕ → Opening) → Due → Timeline → Timeline
serve_one c o (due.Reports time) tl = fronted c time (ReportsDue time) tl
serve_one c o (due.Turns w) tl = ticked c o w.time w.lane tl

abbrev pub serve_due : (Timeline → Timeline) → Contents → (ℕ → Opening) → Option Due → Timeline
    → Timeline
serve_due more c o None tl = tl
serve_due more c o (Some d) tl = more (serve_one c o d tl)

-- what is due up to a limit, in order, until nothing is, and at most so much
abbrev pub serve_up_to : ℕ → Contents → (ℕ → Opening) → Bool → ℕ → ℕ → Timeline → Timeline
serve_up_to zero c o reports count limit tl = tl
serve_up_to (suc n) c o reports count limit tl =
    serve_due (serve_up_to n c o reports count limit) c o
    (first_due c o reports count limit tl) tl

-- what is due up to a limit, in order of time, reports before lanes, and lanes by number, until
-- nothing is: there is no more than `rooms` says
abbrev pub serve : Contents → (ℕ → Opening) → Bool → ℕ → ℕ → Timeline → Timeline
serve c o reports count limit tl =
    serve_up_to (rooms limit (wake o tl) count + room limit (report_time c reports tl))
    c o reports count limit tl
