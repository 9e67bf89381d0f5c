-- A stage against the timeline that it stands for.
use Rattle.std.specs.Prelude.{ℕ, ◌≡◌, ◌≢◌, ◌<◌, ◌≤◌, Bool, true, false, not, List, [], ◌∷◌, ◌++◌, All, map, length, Some, slice_get, if◌then◌else◌}
use Rattle.std.specs.List.{list_any}
use Rattle.rtp_units.specs.declared.SyncInfo.{SyncInfo}
use Rattle.jitter_model.specs.declared.Entry.TheVariants.{Ends}
use Rattle.jitter_model.specs.History.{is_pusher, pusher_count}
use Rattle.script_lang.specs.Contents.{Contents}
use Rattle.script_lang.specs.declared.script.Action.{Action}
use Rattle.timeline.specs.declared.line.BinLine.{BinLine}
use Rattle.timeline.specs.declared.line.BinLine.TheVariants as line
use Rattle.ntp_sync.specs.declared.sync.LaneReport.{LaneReport}
use Rattle.ntp_sync.specs.Offsets.{Call, StandsFor as SyncStandsFor}
use Rattle.front_model.specs.declared.Opening.{Opening}
use Rattle.front_model.specs.declared.Step.{Step}
use Rattle.front_model.specs.declared.Step.TheVariants as step
use Rattle.front_model.specs.Events.{FrontEvent, Requested}
use Rattle.front_model.specs.Reports.{nack_bytes}
use Rattle.rtp_front.specs.Standing.{State as FrontState, StandsFor as FrontStandsFor}
use Rattle.replay_model.specs.Events.{Timeline, At, front, kept}
use Rattle.replay_model.specs.Lanes.{lane_count, opened, latency_of, is_flushing_of, latency_by, flushing_by}
use Rattle.replay_model.specs.Turning.{settled, ticked}
use Rattle.replay_model.specs.Taking.{touches, stepped, all_stepped, call_of, offset_line, offsets, last_reports}
use Rattle.replay_model.specs.Acting.{ticked_where}
use Rattle.replay_model.specs.Ending.{pushers_ended, all_ended}
use Rattle.replay_model.specs.Log.{with_done}
use Rattle.replay_sound.specs.Suited.{counts_none}
use Rattle.lane_core.specs.Lanes.{Base, Adds as AddsLines}
use Rattle.lane_core.specs.AllLanes.{LanesRest, all_resting, resting_and, wakes_in}
use Rattle.bin_core.specs.declared.standings.Standing.{Standing}
use Rattle.bin_core.specs.declared.stage.Stage.{Stage}
use Rattle.bin_core.specs.Touching.{is_listed}

-- ---- sessions

-- how a session stands by the items that came
abbrev pub standing : Contents → ℕ → Timeline → Standing
standing c session tl =
    record { latency = latency_of c session tl; flushing = is_flushing_of session tl }

-- and after an action
abbrev pub standing_by : Action → ℕ → Standing → Standing
standing_by a session s =
    record { latency = latency_by session a s.latency; flushing = flushing_by session a s.flushing }

-- ---- requests

-- the requests for these numbers behind what came to a front
abbrev pub requests_behind : ℕ → ℕ → List ℕ → List FrontEvent → List FrontEvent
requests_behind session ssrc [] older = older
requests_behind session ssrc (seq ∷ more) older =
    requests_behind session ssrc more
    (Requested (record { session = session; ssrc = ssrc; seq = seq }) ∷ older)

-- the line of a request for these numbers, if there are any
abbrev pub nack_lines : Contents → ℕ → ℕ → ℕ → List ℕ → List BinLine
nack_lines c t session ssrc [] = []
nack_lines c t session ssrc (seq ∷ more) =
    line.Nack t session (nack_bytes c.settings.ssrc ssrc (seq ∷ more)) ∷ []

-- numbers are asked for: the line is added, and the front notes them
abbrev pub Sends : ℕ → ℕ → ℕ → List ℕ → FrontState → FrontState → List BinLine → List BinLine
    → Type 0
Sends t session ssrc numbers old new before after =
    (c : Contents) (older : List FrontEvent) → FrontStandsFor old c older
    → (FrontStandsFor new c (requests_behind session ssrc numbers older))
    × (after ≡ before ++ nack_lines c t session ssrc numbers)

-- ---- along the timeline

abbrev pub none_resting : ℕ → Bool
none_resting k = false

-- Each part of the stage stands for what the timeline has of it: the lanes, of which these are at
-- rest, what came to the front, the reports that were kept, and the items. These lines were added.
pub record StageTells (c : Contents) (base : Base) (resting : ℕ → Bool) (stage : Stage)
    (told : List BinLine) (tl : Timeline) : Type 0 where
  pub count : length stage.lanes.items ≡ lane_count tl
  pub few : lane_count tl ≤ 64
  pub lanes : LanesRest (opened c tl) base resting stage.lanes.items told tl
  pub front : FrontStandsFor stage.front c (front tl)
  pub sync : SyncStandsFor stage.sync (kept tl)
  pub lanes_kept : All (λ (call : Call). call.lane < lane_count tl) (kept tl)
  pub standings : (session : ℕ) → session < 8
      → slice_get stage.standings session ≡ Some (standing c session tl)

-- ---- what a call does to a stage, whatever it stands for

-- it goes on by this step, and lanes that were at rest are so again
abbrev pub GoesOn : Stage → Stage → List BinLine → List BinLine → (Contents → Timeline → Timeline)
    → Type 0
GoesOn old new before after step =
    (c : Contents) (base : Base) (tl : Timeline)
    → StageTells c base all_resting old before tl
    → StageTells c base all_resting new after (step c tl)

-- The lanes at rest aren't touched, and there are that many.
abbrev pub AreApart : (ℕ → Bool) → ℕ → Step → Type 0
AreApart resting count x = (k : ℕ) → resting k ≡ true → (touches k x ≡ false) × (k < count)

abbrev pub AreAllApart : (ℕ → Bool) → ℕ → List Step → Type 0
AreAllApart resting count xs =
    (k : ℕ) → resting k ≡ true → (list_any (touches k) xs ≡ false) × (k < count)

-- a step of the front is done: lanes at rest that it doesn't touch stay so
abbrev pub Does : ℕ → Step → Stage → Stage → List BinLine → List BinLine → Type 0
Does t x old new before after =
    (c : Contents) (base : Base) (resting : ℕ → Bool) (tl : Timeline)
    → AreApart resting (length old.lanes.items) x
    → StageTells c base resting old before tl
    → StageTells c base resting new after (stepped c t x tl)

-- the same of steps
abbrev pub DoesAll : ℕ → List Step → Stage → Stage → List BinLine → List BinLine → Type 0
DoesAll t xs old new before after =
    (c : Contents) (base : Base) (resting : ℕ → Bool) (tl : Timeline)
    → AreAllApart resting (length old.lanes.items) xs
    → StageTells c base resting old before tl
    → StageTells c base resting new after (all_stepped c t xs tl)

-- ---- ticks of some lanes

-- the listed lanes tick, and then all are at rest
abbrev pub TicksListed : ℕ → List ℕ → Stage → Stage → List BinLine → List BinLine → Type 0
TicksListed t touched old new before after =
    (c : Contents) (base : Base) (tl : Timeline)
    → StageTells c base (λ k. not (is_listed touched k)) old before tl
    → StageTells c base all_resting new after
    (ticked_where c (opened c tl) t (is_listed touched) (lane_count tl) tl)

-- ---- reports of lanes

-- A report is kept, and the offsets of its CNAME are told, where so many lanes are.
abbrev pub Keeps : ℕ → ℕ → List ℕ → SyncInfo → List (ℕ × LaneReport) → List (ℕ × LaneReport)
    → List BinLine → List BinLine → Type 0
Keeps t l name info old new before after =
    (calls : List Call) (n : ℕ)
    → n ≤ 64 → l < n → All (λ (call : Call). call.lane < n) calls → SyncStandsFor old calls
    → (SyncStandsFor new (call_of l name info ∷ calls))
    × (after ≡ before
    ++ map (offset_line t) (offsets name (last_reports (call_of l name info ∷ calls) n)))

-- ---- one lane of all

abbrev pub Ticks : ℕ → ℕ → Stage → Stage → List BinLine → List BinLine → Type 0
Ticks t n old new before after =
    (c : Contents) (base : Base) (resting : ℕ → Bool) (tl : Timeline)
    → StageTells c base resting old before tl
    → StageTells c base (resting_and n resting) new after (ticked c (opened c tl) t n tl)

-- If the lane has this pusher, the pusher ends, and turns are taken.
abbrev pub pusher_ended : Contents → (ℕ → Opening) → ℕ → ℕ → ℕ → Timeline → Timeline
pusher_ended c o t l p tl =
    if is_pusher (o l).settings.pushers p then settled c o t l (At t l (Ends p) ∷ tl) else tl

-- nothing is said of who is at rest
abbrev pub EndsOne : ℕ → ℕ → ℕ → Stage → Stage → List BinLine → List BinLine → Type 0
EndsOne t n p old new before after =
    (c : Contents) (base : Base) (tl : Timeline)
    → StageTells c base none_resting old before tl
    → StageTells c base none_resting new after (pusher_ended c (opened c tl) t n p tl)

abbrev pub EndsLane : ℕ → ℕ → Stage → Stage → List BinLine → List BinLine → Type 0
EndsLane t n old new before after =
    (c : Contents) (base : Base) (tl : Timeline)
    → StageTells c base none_resting old before tl
    → StageTells c base none_resting new after
    (pushers_ended c (opened c tl) t n pusher_count tl)

abbrev pub EndsAll : ℕ → Stage → Stage → List BinLine → List BinLine → Type 0
EndsAll t old new before after =
    (c : Contents) (base : Base) (tl : Timeline)
    → StageTells c base none_resting old before tl
    → StageTells c base none_resting new after
    (all_ended c (opened c tl) t (lane_count tl) tl)

-- the lanes end, and the last line is told
abbrev pub Finishes : ℕ → Stage → List BinLine → List BinLine → Type 0
Finishes t old before after =
    (c : Contents) (base : Base) (tl : Timeline)
    → StageTells c base none_resting old before tl
    → AddsLines base after (with_done (all_ended c (opened c tl) t (lane_count tl) tl))

-- nothing came yet
abbrev pub Begins : Contents → Stage → Type 0
Begins c stage =
    (before : List BinLine)
    → StageTells c (record { before = before; log = [] }) all_resting stage before []

-- ---- steps that only tell

-- Each tells a line that counts nothing in the last line.
abbrev pub AreQuiet : List Step → Type 0
AreQuiet [] = Unit {0}
AreQuiet (step.Tell x ∷ xs) = (counts_none x ≡ true) × AreQuiet xs
AreQuiet (step.Open o ∷ xs) = ⊥
AreQuiet (step.Push l a ∷ xs) = ⊥
AreQuiet (step.Sync l r ∷ xs) = ⊥

-- Steps tell these lines, and do nothing else.
abbrev pub AreTold : List Step → List BinLine → Type 0
AreTold [] ys = ys ≡ []
AreTold (step.Tell x ∷ xs) ys =
    (counts_none x ≡ true) × ((more : List BinLine) × (ys ≡ x ∷ more) × AreTold xs more)
AreTold (step.Open o ∷ xs) ys = ⊥
AreTold (step.Push l a ∷ xs) ys = ⊥
AreTold (step.Sync l r ∷ xs) ys = ⊥

abbrev pub TellsAll : List Step → List BinLine → List BinLine → Type 0
TellsAll xs before after = (ys : List BinLine) × (after ≡ before ++ ys) × AreTold xs ys

-- ---- what stays

-- the same lanes, and wakes of all but one
pub record SameButOne (n : ℕ) (old new : Stage) : Type 0 where
  pub count : length new.lanes.items ≡ length old.lanes.items
  pub wakes : (k : ℕ) → k ≢ n → wakes_in new.lanes.items k ≡ wakes_in old.lanes.items k

-- the same wakes
pub record SameWakes (old new : Stage) : Type 0 where
  pub count : length new.lanes.items ≡ length old.lanes.items
  pub wakes : (k : ℕ) → wakes_in new.lanes.items k ≡ wakes_in old.lanes.items k
