-- What the front of a script gives a bin, beside what fits the lanes.
use Rattle.std.specs.Prelude.{◌≡◌, ◌<◌, ◌^◌, Bool, true, false, List, [], ◌∷◌, length}
use Rattle.jitter_model.specs.Runs.{IsValid}
use Rattle.timeline.specs.declared.line.BinLine.{BinLine}
use Rattle.timeline.specs.declared.line.BinLine.TheVariants as line
use Rattle.front_model.specs.declared.Opening.{Opening}
use Rattle.front_model.specs.declared.Step.{Step}
use Rattle.front_model.specs.declared.Step.TheVariants as step
use Rattle.replay_model.specs.Fitting.{IsFitting, with_step}

-- a line that counts nothing in the last line
abbrev pub counts_none : BinLine → Bool
counts_none (line.Out t l n pts pt marker len bytes) = false
counts_none (line.Lost t l n count pts duration) = false
counts_none (line.Refuse t l seq kind why) = false
counts_none x = true

-- a lane that begins behind these: it has the next number, is one of at most 64, is of one of eight
-- sessions, and its settings are in their ranges
pub record IsNext (os : List Opening) (o : Opening) : Type 0 where
  pub number : o.lane ≡ length os
  pub room : length os < 64
  pub session : o.session < 8
  pub valid : IsValid o.settings

-- A step suits these lanes: what it tells counts nothing, and what it gives a lane fits it.
abbrev pub IsSuited : List Opening → Step → Type 0
IsSuited os (step.Tell x) = counts_none x ≡ true
IsSuited os (step.Open o) = IsNext os o
IsSuited os (step.Push l a) = IsFitting os l a
IsSuited os (step.Sync l r) = (l < length os) × (r.ntp_ns < 2 ^ 63)

-- Each step suits the lanes that there are by then.
abbrev pub AreSuited : List Opening → List Step → Type 0
AreSuited os [] = Unit {0}
AreSuited os (x ∷ xs) = IsSuited os x × AreSuited (with_step os x) xs

-- steps that tell, and do nothing else
abbrev pub OnlyTell : List Step → Type 0
OnlyTell [] = Unit {0}
OnlyTell (step.Tell x ∷ xs) = OnlyTell xs
OnlyTell (step.Open o ∷ xs) = ⊥
OnlyTell (step.Push l a ∷ xs) = ⊥
OnlyTell (step.Sync l r ∷ xs) = ⊥
