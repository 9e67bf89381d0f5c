-- An agenda against the timeline that it stands for.
use Rattle.std.specs.Prelude.{ℕ, ◌≡◌, ◌+◌, Bool, List, Option, Some, None}
use Rattle.script_lang.specs.Contents.{Contents}
use Rattle.timeline.specs.declared.line.BinLine.{BinLine}
use Rattle.front_model.specs.Events.{ReportsDue}
use Rattle.replay_model.specs.declared.Due.{Due}
use Rattle.replay_model.specs.Events.{Timeline, latest}
use Rattle.replay_model.specs.Lanes.{lane_count, opened}
use Rattle.replay_model.specs.Serving.{next_report, first_due, serve_one, serve, room}
use Rattle.replay_model.specs.Taking.{fronted}
use Rattle.replay_model.specs.Ending.{closed}
use Rattle.replay_model.specs.Log.{with_done}
use Rattle.lane_core.specs.Lanes.{Base, Adds as AddsLines}
use Rattle.lane_core.specs.AllLanes.{all_resting, wakes_left}
use Rattle.bin_core.specs.declared.agenda.Agenda.{Agenda}
use Rattle.bin_core.specs.Stages.{StageTells}

-- The stage stands for the timeline, all lanes are at rest, and the times are the timeline's.
pub record Holds (c : Contents) (base : Base) (agenda : Agenda) (told : List BinLine)
    (tl : Timeline) : Type 0 where
  pub stage : StageTells c base all_resting agenda.stage told tl
  pub interval : agenda.interval ≡ c.settings.report
  pub next : agenda.next_report ≡ next_report c tl
  pub last : agenda.latest ≡ latest tl

-- how often something that is due up to a time can be served, at most
abbrev pub left_in : ℕ → Agenda → ℕ
left_in limit agenda = wakes_left limit agenda.stage.lanes.items + room limit agenda.next_report

-- what is due first of a timeline, of the reports, or of none
abbrev pub due_first : Contents → Bool → ℕ → Timeline → Option Due
due_first c reports limit tl = first_due c (opened c tl) reports (lane_count tl) limit tl

-- ---- what calls do, whatever the agenda stands for

abbrev pub GoesTo : Agenda → Agenda → List BinLine → List BinLine
    → (Contents → Timeline → Timeline) → Type 0
GoesTo old new before after step =
    (c : Contents) (base : Base) (tl : Timeline)
    → Holds c base old before tl → Holds c base new after (step c tl)

-- a report time came
abbrev pub ReportsAt : ℕ → Agenda → Agenda → List BinLine → List BinLine → Type 0
ReportsAt t old new before after =
    GoesTo old new before after (λ c. fronted c t (ReportsDue t))

-- what is due first was served
abbrev pub ServesFirst : Bool → ℕ → Agenda → Agenda → List BinLine → List BinLine → Type 0
ServesFirst reports limit old new before after =
    (c : Contents) (base : Base) (tl : Timeline)
    → Holds c base old before tl
    → (d : Due) × (due_first c reports limit tl ≡ Some d)
    × Holds c base new after (serve_one c (opened c tl) d tl)

-- nothing was due
abbrev pub ServesNothing : Bool → ℕ → Agenda → Agenda → List BinLine → List BinLine → Type 0
ServesNothing reports limit old new before after =
    (c : Contents) (base : Base) (tl : Timeline)
    → Holds c base old before tl
    → (due_first c reports limit tl ≡ None) × Holds c base new after tl

-- all that is due up to a limit
abbrev pub all_served : Bool → ℕ → Contents → Timeline → Timeline
all_served reports limit c tl = serve c (opened c tl) reports (lane_count tl) limit tl

-- the log is completed
abbrev pub CompletesAll : Agenda → List BinLine → List BinLine → Type 0
CompletesAll old before after =
    (c : Contents) (base : Base) (tl : Timeline)
    → Holds c base old before tl → AddsLines base after (with_done (closed c tl))
