-- Stages that stand for some script, and the steps of its front that they still owe.
use Rattle.std.specs.Prelude.{ℕ, ◌≡◌, ◌≤◌, ◌<◌, ◌^◌, ◌+◌, List, [], length, Some, get_or, slice_get}
use Rattle.jitter_core.specs.Words.{pushes_of, settings_of}
use Rattle.script_lang.specs.Contents.{Contents, IsScript}
use Rattle.front_model.specs.declared.Opening.{Opening}
use Rattle.front_model.specs.declared.Step.{Step}
use Rattle.front_model.specs.Events.{FrontEvent, records}
use Rattle.front_model.specs.Steps.{all_steps}
use Rattle.rtp_front.specs.Standing.{StandsFor as FrontStandsFor}
use Rattle.replay_model.specs.Fitting.{AreComing, with_steps, given}
use Rattle.replay_sound.specs.Suited.{AreSuited}
use Rattle.lane_core.specs.declared.lane.Lane.{Lane}
use Rattle.bin_core.specs.declared.standings.Standing.{Standing}
use Rattle.bin_core.specs.declared.stage.Stage.{Stage}
use Rattle.bin_core.specs.Waking.{AreWakes}

-- The lanes began so, and none of them took more than so many packets.
pub record AreOpened (os : List Opening) (pushed : ℕ) (lanes : List Lane) : Type 0 where
  pub count : length lanes ≡ length os
  pub settings : (k : ℕ) (o : Opening) (d : Lane)
      → slice_get os k ≡ Some o → settings_of (get_or lanes k d).buffer ≡ o.settings
  pub pushes : (k : ℕ) (d : Lane) → k < length lanes → pushes_of (get_or lanes k d).buffer ≤ pushed

-- a session of the stage has a latency of at most 600 seconds
pub record HasLatency (stage : Stage) (session : ℕ) : Type 0 where
  pub standing : Standing
  pub is : slice_get stage.standings session ≡ Some standing
  pub small : standing.latency ≤ 600000000000

-- The front of a script was given these events, of which so many are records. The lanes stand as
-- its steps lead to, but for these steps, which are still to be done. The lanes' wakes are kept.
pub record IsUnderway (n : ℕ) (owed : List Step) (stage : Stage) : Type 0 where
  pub script : Contents
  pub events : List FrontEvent
  pub begun : List Opening
  pub pushed : ℕ
  pub reads : IsScript script
  pub coming : AreComing events
  pub count : records events ≡ n
  pub most : n ≤ 100000000
  pub front : FrontStandsFor stage.front script events
  pub begins : with_steps begun owed ≡ with_steps [] (all_steps script events)
  pub gives : pushed + given owed ≡ given (all_steps script events)
  pub few : given (all_steps script events) < 2 ^ 31
  pub suited : AreSuited begun owed
  pub room : length begun ≤ 64
  pub opened : AreOpened begun pushed stage.lanes.items
  pub wakes : AreWakes stage.wakes stage.lanes.items
  pub latencies : (session : ℕ) → session < 8 → HasLatency stage session

-- There are such a script and such events.
abbrev pub Owes : ℕ → List Step → Stage → Type 0
Owes n owed stage = ∥ IsUnderway n owed stage ∥₁

-- Some number of records came, and no step is left.
abbrev pub IsAtRest : Stage → Type 0
IsAtRest stage = (n : ℕ) × Owes n [] stage

-- no record came since, and no step is left
abbrev pub StaysAtRest : Stage → Stage → Type 0
StaysAtRest old new = (n : ℕ) → Owes n [] old → Owes n [] new
