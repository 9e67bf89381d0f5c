-- What a replay is given, and what its front has to give the lanes.
use Rattle.std.specs.Prelude.{ℕ, ◌≡◌, ◌≤◌, ◌<◌, ◌^◌, ◌+◌, ◌*◌, true, List, [], ◌∷◌, ◌++◌, All, length, Some, slice_get}
use Rattle.pcap_file.specs.Capture.{Record}
use Rattle.jitter_model.specs.declared.Arrival.{Arrival}
use Rattle.jitter_model.specs.History.{is_pusher}
use Rattle.jitter_model.specs.Runs.{IsValid, IsInRange}
use Rattle.script_lang.specs.Contents.{Contents}
use Rattle.script_lang.specs.declared.script.Item.{Item}
use Rattle.script_lang.specs.declared.script.Action.{Action}
use Rattle.script_lang.specs.declared.script.Action.TheVariants as action
use Rattle.front_model.specs.declared.Opening.{Opening}
use Rattle.front_model.specs.declared.Step.{Step}
use Rattle.front_model.specs.declared.Step.TheVariants as step
use Rattle.front_model.specs.Events.{FrontEvent, Came, ReportsDue, Requested, records}
use Rattle.front_model.specs.Steps.{opening_settings, steps, all_steps}
use Rattle.timeline.specs.Times.{Timed}
use Rattle.replay_model.specs.Inputs.{Input, OfCapture, OfScript, records_in}

-- ---- inputs

-- a record of bytes, in the first 2^63 nanoseconds
pub record IsCaptured (time : ℕ) (r : Record) : Type 0 where
  pub early : time < 2 ^ 63
  pub bytes : All (λ b. b < 256) r.bytes

-- a latency of at most 600 seconds
abbrev pub IsAction : Action → Type 0
IsAction (action.Latency session ns) = ns ≤ 600000000000
IsAction action.Clock = Unit {0}
IsAction (action.FlushStart session) = Unit {0}
IsAction (action.FlushStop session) = Unit {0}

-- an item in the first 2^63 nanoseconds
pub record IsItem (i : Item) : Type 0 where
  pub early : i.time < 2 ^ 63
  pub action : IsAction i.action

abbrev pub IsInput : Input → Type 0
IsInput (OfCapture r) = IsCaptured r.time r.captured
IsInput (OfScript i) = IsItem i

-- what comes to a front in a replay
abbrev pub IsComing : FrontEvent → Type 0
IsComing (Came time r) = IsCaptured time r
IsComing (ReportsDue time) = Unit {0}
IsComing (Requested r) = Unit {0}

abbrev pub AreComing : List FrontEvent → Type 0
AreComing [] = Unit {0}
AreComing (e ∷ older) = IsComing e × AreComing older

-- ---- steps

-- how lanes began by steps
abbrev pub with_step : List Opening → Step → List Opening
with_step os (step.Open o) = os ++ o ∷ []
with_step os (step.Tell line) = os
with_step os (step.Push l a) = os
with_step os (step.Sync l r) = os

abbrev pub with_steps : List Opening → List Step → List Opening
with_steps os [] = os
with_steps os (x ∷ xs) = with_steps (with_step os x) xs

-- how many packets steps give
abbrev pub given_by : Step → ℕ
given_by (step.Push l a) = 1
given_by (step.Open o) = 0
given_by (step.Tell line) = 0
given_by (step.Sync l r) = 0

abbrev pub given : List Step → ℕ
given [] = 0
given (x ∷ xs) = given_by x + given xs

-- a packet for one of these lanes, from one of its pushers, with its numbers in their ranges
pub record IsFitting (os : List Opening) (l : ℕ) (a : Arrival) : Type 0 where
  pub opening : Opening
  pub is : slice_get os l ≡ Some opening
  pub pusher : is_pusher opening.settings.pushers a.pusher ≡ true
  pub ranges : IsInRange a

-- a step that fits these lanes
abbrev pub IsFit : List Opening → Step → Type 0
IsFit os (step.Tell line) = Unit {0}
IsFit os (step.Open o) = IsValid o.settings
IsFit os (step.Push l a) = IsFitting os l a
IsFit os (step.Sync l r) = (l < length os) × (r.ntp_ns < 2 ^ 64) × (r.rtp < 2 ^ 32)

-- each step fits the lanes that there are by then
abbrev pub AreFit : List Opening → List Step → Type 0
AreFit os [] = Unit {0}
AreFit os (x ∷ xs) = IsFit os x × AreFit (with_step os x) xs

-- Whatever comes to the front of a script, with no more records than a capture has at most, leads to
-- steps that fit, and each record gives at most 16 packets to lanes.
pub record IsSound (c : Contents) : Type 0 where
  pub valid : IsValid (opening_settings c 0 1)
  pub fit : (older : List FrontEvent) (e : FrontEvent) → AreComing (e ∷ older)
      → records (e ∷ older) ≤ 100000000
      → AreFit (with_steps [] (all_steps c older)) (steps c older e)
  pub few : (events : List FrontEvent) → AreComing events
      → given (all_steps c events) ≤ 16 * records events

-- a script's choices, inputs in their ranges, and no more records than a capture has at most
pub record IsReplay (c : Contents) (xs : List Input) : Type 0 where
  pub latency : c.settings.latency ≤ 600000000000
  pub few : length (records_in xs) ≤ 100000000
  pub each : All IsInput xs
