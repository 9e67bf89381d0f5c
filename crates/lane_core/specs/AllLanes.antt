-- All lanes of a bin against the timeline that they stand for. `o` tells how each lane began.
use Rattle.std.specs.Prelude.{ℕ, zero, suc, ◌+◌, ◌==◌, ◌≡◌, ◌≤◌, ◌<◌, Bool, true, false, List, [], ◌∷◌, ◌++◌, Option, None, length, get_or, sum_by, if◌then◌else◌}
use Rattle.jitter_core.specs.Words.{pushes_of, settings_of}
use Rattle.script_lang.specs.Contents.{Contents}
use Rattle.script_lang.specs.declared.script.Item.{Item}
use Rattle.timeline.specs.declared.line.BinLine.{BinLine}
use Rattle.timeline.specs.declared.line.BinLine.TheVariants as told
use Rattle.front_model.specs.declared.Opening.{Opening}
use Rattle.replay_model.specs.Events.{Timeline, lane}
use Rattle.replay_model.specs.Lines.{lines}
use Rattle.replay_model.specs.Lanes.{lane_count, opened, latency_of, is_flushing_of}
use Rattle.replay_model.specs.Acting.{is_for, all_acted}
use Rattle.replay_model.specs.Taking.{begun}
use Rattle.replay_model.specs.Serving.{wake, rooms}
use Rattle.lane_core.specs.declared.counts.Counts.{Counts}
use Rattle.lane_core.specs.declared.lane.Lane.{Lane}
use Rattle.lane_core.specs.Lanes.{Base, Adds, Around, Tally, SameLane, LaneHolds}

-- the wake that is kept of a lane
abbrev pub wakes_in : List Lane → ℕ → Option ℕ
wakes_in [] k = None
wakes_in (l ∷ ls) zero = l.wake
wakes_in (l ∷ ls) (suc k) = wakes_in ls k

-- how many wakes can still be served up to a limit, at most
abbrev pub wakes_left : ℕ → List Lane → ℕ
wakes_left limit ls = rooms limit (wakes_in ls) (length ls)

-- ---- counts

abbrev pub out_of : Lane → ℕ
out_of l = l.counts.out

abbrev pub lost_of : Lane → ℕ
lost_of l = l.counts.lost

abbrev pub refused_of : Lane → ℕ
refused_of l = l.counts.refused

-- the counts of all lanes
abbrev pub total : List Lane → Counts
total ls =
    record { out = sum_by out_of ls; lost = sum_by lost_of ls; refused = sum_by refused_of ls }

-- the last line, by the kept counts
abbrev pub done_of : List Lane → ℕ → BinLine
done_of ls records =
    told.Done records (length ls) (sum_by out_of ls) (sum_by lost_of ls) (sum_by refused_of ls)

-- the counts by this of all lanes but one
abbrev pub rest : (Lane → ℕ) → List Lane → ℕ → ℕ
rest f [] n = 0
rest f (l ∷ ls) zero = sum_by f ls
rest f (l ∷ ls) (suc n) = f l + rest f ls n

-- what the others counted
abbrev pub rest_of : List Lane → ℕ → Counts
rest_of ls n =
    record { out = rest out_of ls n; lost = rest lost_of ls n; refused = rest refused_of ls n }

-- what stands around a lane
abbrev pub around : Base → List Lane → ℕ → Timeline → Around
around base ls n tl =
    record { base = base; histories = λ k. lane k tl; counts = rest_of ls n }

-- ---- what stays

-- the same lanes, of the same streams
pub record SameLanes (old new : List Lane) : Type 0 where
  pub count : length new ≡ length old
  pub each : (k : ℕ) (d : Lane) → k < length old → SameLane (get_or old k d) (get_or new k d)

-- these lanes, and one more that was made for this opening, and wants no turn
pub record AddsLane (opening : Opening) (old new : List Lane) : Type 0 where
  pub lane : Lane
  pub added : new ≡ old ++ lane ∷ []
  pub number_is : lane.number ≡ opening.lane
  pub session_is : lane.session ≡ opening.session
  pub ssrc_is : lane.ssrc ≡ opening.ssrc
  pub settings : settings_of lane.buffer ≡ opening.settings
  pub pushes : pushes_of lane.buffer ≡ 0
  pub wake_is : lane.wake ≡ None

-- ---- along the timeline

-- each lane stands for its history; there are no others; all lines are counted, and these ones
-- were added
pub record LanesTell (o : ℕ → Opening) (base : Base) (ls : List Lane) (told : List BinLine)
    (tl : Timeline) : Type 0 where
  pub each : (k : ℕ) (d : Lane) → k < length ls → LaneHolds (o k) k (get_or ls k d) (lane k tl)
  pub silent : (k : ℕ) → length ls ≤ k → lane k tl ≡ []
  pub tallies : Tally (total ls) (lines tl)
  pub written : Adds base told (lines tl)

-- and the wakes that are kept of those at rest are theirs
pub record LanesRest (o : ℕ → Opening) (base : Base) (resting : ℕ → Bool) (ls : List Lane)
    (told : List BinLine) (tl : Timeline) : Type 0 where
  pub tells : LanesTell o base ls told tl
  pub wakes_are : (k : ℕ) → k < length ls → resting k ≡ true → wakes_in ls k ≡ wake o tl k

-- what holds of a timeline's lanes between two inputs
pub record LanesHold (c : Contents) (ls : List Lane) (tl : Timeline) : Type 0 where
  pub count : length ls ≡ lane_count tl
  pub each : (k : ℕ) (d : Lane) → k < length ls
      → LaneHolds (opened c tl k) k (get_or ls k d) (lane k tl)
  pub wakes_are : (k : ℕ) → k < length ls → wakes_in ls k ≡ wake (opened c tl) tl k
  pub silent : (k : ℕ) → length ls ≤ k → lane k tl ≡ []
  pub tallies : Tally (total ls) (lines tl)

-- ---- which lanes are at rest

abbrev pub all_resting : ℕ → Bool
all_resting k = true

-- all of these but one
abbrev pub resting_but : ℕ → (ℕ → Bool) → ℕ → Bool
resting_but n resting k = if k == n then false else resting k

-- these and one more
abbrev pub resting_and : ℕ → (ℕ → Bool) → ℕ → Bool
resting_and n resting k = if k == n then true else resting k

-- ---- what a call does to all lanes

-- An item comes to those that it is for; the others may be at rest.
abbrev pub ActOn : Item → List Lane → List Lane → List BinLine → List BinLine → Type 0
ActOn i old new before after =
    (o : ℕ → Opening) (base : Base) (resting : ℕ → Bool) (tl : Timeline)
    → ((k : ℕ) → resting k ≡ true → is_for i.action (o k).session ≡ false)
    → LanesRest o base resting old before tl
    → LanesRest o base resting new after (all_acted o i.time (length old) i.action tl)

-- how its session stands as a lane begins
pub record BeginsAs (c : Contents) (opening : Opening) (ns : ℕ) (flushing : Bool) (ls : List Lane)
    (tl : Timeline) : Type 0 where
  pub count : length ls ≡ lane_count tl
  pub latency : ns ≡ latency_of c opening.session tl
  pub flushing_is : flushing ≡ is_flushing_of opening.session tl

-- a lane begins behind the others, and is not at rest yet
abbrev pub Open : ℕ → Opening → ℕ → Bool → List Lane → List Lane → List BinLine → List BinLine
    → Type 0
Open t opening ns flushing old new before after =
    (c : Contents) (base : Base) (resting : ℕ → Bool) (tl : Timeline)
    → BeginsAs c opening ns flushing old tl
    → LanesRest (opened c tl) base resting old before tl
    → LanesRest (opened c (begun c t opening tl)) base (resting_but (length old) resting) new after
    (begun c t opening tl)
