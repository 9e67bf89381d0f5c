-- What holds of lanes beside each other, where one of them goes on or something else happens.
use Rattle.std.specs.Prelude.{ℕ, ◌≡◌, ◌<◌, Bool, true, false, List, [], ◌++◌, length, get_or, set}
use Rattle.timeline.specs.declared.line.BinLine.{BinLine}
use Rattle.front_model.specs.declared.Opening.{Opening}
use Rattle.replay_model.specs.Events.{Timeline, lane}
use Rattle.replay_model.specs.Lines.{lines}
use Rattle.lane_core.specs.declared.lane.Lane.{Lane}
use Rattle.lane_core.specs.Lanes.{Base, Adds, LaneTells, LaneRests, Sums}
use Rattle.lane_core.specs.AllLanes.{LanesTell, LanesRest, around, resting_and}

-- Each of the lanes stands for its history, whatever the others count.
abbrev pub EachTells : Type 0
EachTells =
    (o : ℕ → Opening) (base : Base) (ls : List Lane) (n : ℕ) (was : Lane) (told : List BinLine)
    (tl : Timeline)
    → n < length ls → was ≡ get_or ls n was
    → LanesTell o base ls told tl
    → LaneTells o (around base ls n tl) n was told tl

-- Where one that isn't at rest goes on, so do all.
abbrev pub GoOnWithOne : Type 0
GoOnWithOne =
    (o : ℕ → Opening) (base : Base) (resting : ℕ → Bool) (ls : List Lane) (n : ℕ) (was b : Lane)
    (told more : List BinLine) (before after : Timeline)
    → n < length ls → was ≡ get_or ls n was → resting n ≡ false
    → LanesRest o base resting ls told before
    → (LaneTells o (around base ls n before) n was told before
    → LaneTells o (around base ls n before) n b more after)
    → LanesRest o base resting (set ls n b) more after

-- Where one comes to rest, it is at rest beside those that are.
abbrev pub RestWithOne : Type 0
RestWithOne =
    (o : ℕ → Opening) (base : Base) (resting : ℕ → Bool) (ls : List Lane) (n : ℕ) (was b : Lane)
    (told more : List BinLine) (before after : Timeline)
    → n < length ls → was ≡ get_or ls n was
    → LanesRest o base resting ls told before
    → (LaneTells o (around base ls n before) n was told before
    → LaneRests o (around base ls n before) n b more after)
    → LanesRest o base (resting_and n resting) (set ls n b) more after

-- Something that happens in no lane, and whose lines count nothing, leaves them.
abbrev pub StayApart : Type 0
StayApart =
    (o : ℕ → Opening) (base : Base) (resting : ℕ → Bool) (ls : List Lane)
    (told more ys : List BinLine) (before after : Timeline)
    → ((k : ℕ) → lane k after ≡ lane k before)
    → lines after ≡ lines before ++ ys → more ≡ told ++ ys → Sums ys 0 0 0
    → LanesRest o base resting ls told before
    → LanesRest o base resting ls more after

-- How they began is all that is asked of their openings.
abbrev pub HangOnOpenings : Type 0
HangOnOpenings =
    (o p : ℕ → Opening) (base : Base) (resting : ℕ → Bool) (ls : List Lane)
    (told : List BinLine) (tl : Timeline)
    → ((k : ℕ) → k < length ls → o k ≡ p k)
    → LanesRest o base resting ls told tl → LanesRest p base resting ls told tl

-- Fewer may be taken to be at rest.
abbrev pub MayRestLess : Type 0
MayRestLess =
    (o : ℕ → Opening) (base : Base) (resting fewer : ℕ → Bool) (ls : List Lane)
    (told : List BinLine) (tl : Timeline)
    → ((k : ℕ) → k < length ls → fewer k ≡ true → resting k ≡ true)
    → LanesRest o base resting ls told tl → LanesRest o base fewer ls told tl

-- The same lines may be added to the list and to the log.
abbrev pub AddAlike : Type 0
AddAlike =
    (base : Base) (told more all ys : List BinLine)
    → Adds base told all → more ≡ told ++ ys → Adds base more (all ++ ys)

-- All of these hold.
pub record LanesStandBeside : Type 0 where
  pub each : EachTells
  pub go_on : GoOnWithOne
  pub rest : RestWithOne
  pub apart : StayApart
  pub opened : HangOnOpenings
  pub fewer : MayRestLess
  pub added : AddAlike
