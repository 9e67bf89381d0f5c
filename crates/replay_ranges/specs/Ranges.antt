-- The ranges of what a front gives the lanes, and how many packets it gives them.
use Rattle.std.specs.Prelude.{◌≤◌, ◌<◌, ◌^◌, ◌*◌, List, [], ◌∷◌}
use Rattle.jitter_model.specs.Runs.{IsInRange}
use Rattle.script_lang.specs.Contents.{Contents, IsScript}
use Rattle.front_model.specs.declared.Step.{Step}
use Rattle.front_model.specs.declared.Step.TheVariants as step
use Rattle.front_model.specs.Events.{FrontEvent, records}
use Rattle.front_model.specs.Steps.{steps, all_steps}
use Rattle.replay_model.specs.Fitting.{AreComing, given}

-- The numbers of what the step gives a lane are in their ranges.
abbrev pub IsRanged : Step → Type 0
IsRanged (step.Tell line) = Unit {0}
IsRanged (step.Open o) = Unit {0}
IsRanged (step.Push l a) = IsInRange a
IsRanged (step.Sync l r) = (r.ntp_ns < 2 ^ 63) × (r.rtp < 2 ^ 32)

abbrev pub AreRanged : List Step → Type 0
AreRanged [] = Unit {0}
AreRanged (x ∷ xs) = IsRanged x × AreRanged xs

-- Whatever comes to the front of a script, with no more records than a capture has at most, what it
-- gives the lanes is in its ranges.
abbrev pub StayInRange : Type 0
StayInRange =
    (c : Contents) (older : List FrontEvent) (e : FrontEvent)
    → IsScript c → AreComing (e ∷ older) → records (e ∷ older) ≤ 100000000
    → AreRanged (steps c older e)

-- A record gives at most 16 packets to lanes.
abbrev pub AreFew : Type 0
AreFew =
    (c : Contents) (events : List FrontEvent)
    → IsScript c → AreComing events → given (all_steps c events) ≤ 16 * records events
