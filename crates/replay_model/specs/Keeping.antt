-- What the parts of a timeline leave as it was, and when what they add happened.
use Rattle.std.specs.Prelude.{ℕ, ◌≡◌, ◌≤◌, ◌++◌, Bool, List, [], ◌∷◌, max}
use Rattle.script_lang.specs.Contents.{Contents}
use Rattle.script_lang.specs.declared.script.Action.{Action}
use Rattle.script_lang.specs.declared.script.Item.{Item}
use Rattle.front_model.specs.declared.Opening.{Opening}
use Rattle.front_model.specs.declared.Step.{Step}
use Rattle.front_model.specs.Events.{FrontEvent, ReportsDue}
use Rattle.replay_model.specs.declared.Due.{Due}
use Rattle.replay_model.specs.Events.{Timeline, Fronted, event_time, front, lane, latest, items, openings}
use Rattle.replay_model.specs.Lanes.{lane_count}
use Rattle.replay_model.specs.Turning.{all_turns, settled, ticked}
use Rattle.replay_model.specs.Acting.{all_acted, ticked_where, acted}
use Rattle.replay_model.specs.Taking.{all_stepped, fronted, taken}
use Rattle.replay_model.specs.Serving.{last_report, report_time, serve_one, serve}

-- these happened at this time
abbrev pub AreAt : ℕ → Timeline → Type 0
AreAt t [] = Unit {0}
AreAt t (e ∷ es) = (event_time e ≡ t) × AreAt t es

-- the timeline with what happened then, all of it at this time
pub record Adds (t : ℕ) (old new : Timeline) : Type 0 where
  pub more : Timeline
  pub is : new ≡ more ++ old
  pub at : AreAt t more

-- A lane's turns leave what came to the front. A series of them, with what it asks for, leaves the
-- lanes as the turns do, and the items and how lanes began as they were.
pub record SeriesKeeps : Type 0 where
  pub front_is : (o : ℕ → Opening) (t l : ℕ) (tl : Timeline)
      → front (all_turns o t l tl) ≡ front tl
  pub lanes_are : (c : Contents) (o : ℕ → Opening) (t l k : ℕ) (tl : Timeline)
      → lane k (settled c o t l tl) ≡ lane k (all_turns o t l tl)
  pub items_are : (c : Contents) (o : ℕ → Opening) (t l : ℕ) (tl : Timeline)
      → items (settled c o t l tl) ≡ items tl
  pub openings_are : (c : Contents) (o : ℕ → Opening) (t l : ℕ) (tl : Timeline)
      → openings (settled c o t l tl) ≡ openings tl

-- A tick of a lane raises the latest time to its own at most, and leaves the next report time.
-- Ticks of some lanes leave how lanes began and the last report time.
pub record TicksKeep : Type 0 where
  pub latest_is : (c : Contents) (o : ℕ → Opening) (t l : ℕ) (tl : Timeline)
      → latest (ticked c o t l tl) ≡ max t (latest tl)
  pub report_is : (c : Contents) (o : ℕ → Opening) (reports : Bool) (t l : ℕ) (tl : Timeline)
      → report_time c reports (ticked c o t l tl) ≡ report_time c reports tl
  pub openings_are : (c : Contents) (o : ℕ → Opening) (t : ℕ) (passes : ℕ → Bool) (count : ℕ)
      (tl : Timeline)
      → openings (ticked_where c o t passes count tl) ≡ openings tl
  pub last_is : (c : Contents) (o : ℕ → Opening) (t : ℕ) (passes : ℕ → Bool) (count : ℕ)
      (tl : Timeline)
      → last_report (front (ticked_where c o t passes count tl)) ≡ last_report (front tl)

-- What an item does to lanes leaves how they began and what came to the front.
pub record ActionsKeep : Type 0 where
  pub openings_are : (o : ℕ → Opening) (t count : ℕ) (a : Action) (tl : Timeline)
      → openings (all_acted o t count a tl) ≡ openings tl
  pub front_is : (o : ℕ → Opening) (t count : ℕ) (a : Action) (tl : Timeline)
      → front (all_acted o t count a tl) ≡ front tl

-- Steps of the front leave what came to it, and take no lane away. Reports come to the front alone.
pub record StepsKeep : Type 0 where
  pub front_is : (c : Contents) (t : ℕ) (xs : List Step) (tl : Timeline)
      → front (all_stepped c t xs tl) ≡ front tl
  pub lanes_stay : (c : Contents) (t : ℕ) (xs : List Step) (tl : Timeline)
      → lane_count tl ≤ lane_count (all_stepped c t xs tl)
  pub reports_are : (c : Contents) (t : ℕ) (tl : Timeline)
      → front (fronted c t (ReportsDue t) tl) ≡ ReportsDue t ∷ front tl

-- What is due begins no lane.
pub record ServingKeeps : Type 0 where
  pub one : (c : Contents) (o : ℕ → Opening) (d : Due) (tl : Timeline)
      → openings (serve_one c o d tl) ≡ openings tl
  pub all : (c : Contents) (o : ℕ → Opening) (reports : Bool) (count limit : ℕ) (tl : Timeline)
      → openings (serve c o reports count limit tl) ≡ openings tl

-- All that comes of something at the front, or of an item, happens at its time.
pub record AddAtOnce : Type 0 where
  pub fronts : (c : Contents) (t : ℕ) (e : FrontEvent) (tl : Timeline)
      → Adds t (Fronted t e ∷ tl) (fronted c t e tl)
  pub records : (c : Contents) (t : ℕ) (e : FrontEvent) (tl : Timeline)
      → Adds t (Fronted t e ∷ tl) (taken c t e tl)
  pub items : (c : Contents) (o : ℕ → Opening) (count : ℕ) (i : Item) (tl : Timeline)
      → Adds i.time tl (acted c o count i tl)

-- All of these hold.
pub record TimelinesKeep : Type 0 where
  pub series : SeriesKeeps
  pub ticks : TicksKeep
  pub actions : ActionsKeep
  pub steps : StepsKeep
  pub serving : ServingKeeps
  pub adding : AddAtOnce
