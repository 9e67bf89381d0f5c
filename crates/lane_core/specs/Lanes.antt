-- A lane against the timeline that it stands for. `o` tells how each lane began.
use Rattle.std.specs.Prelude.{ℕ, Bool, ◌≡◌, ◌≢◌, ◌+◌, ◌++◌, List, [], ◌∷◌, Option, Some, None, sum_by, if◌then◌else◌}
use Rattle.rtp_units.specs.declared.SyncInfo.{SyncInfo}
use Rattle.jitter_model.specs.declared.Arrival.{Arrival}
use Rattle.jitter_model.specs.declared.Entry.TheVariants.{Clock, Latency, Report, Ends}
use Rattle.jitter_model.specs.History.{History}
use Rattle.jitter_model.specs.Runs.{report}
use Rattle.jitter_model.specs.Verdicts.{pushed as reply_to_push}
use Rattle.jitter_core.specs.Words.{Stands, settings_of, pushes_of}
use Rattle.timeline.specs.declared.line.BinLine.{BinLine}
use Rattle.timeline.specs.declared.line.BinLine.TheVariants as told
use Rattle.script_lang.specs.Contents.{Contents}
use Rattle.script_lang.specs.declared.script.Item.{Item}
use Rattle.front_model.specs.declared.Opening.{Opening}
use Rattle.front_model.specs.Reports.{nack_bytes}
use Rattle.replay_model.specs.Events.{Timeline, Told, At, lane}
use Rattle.replay_model.specs.Lines.{lines, out_in, lost_in, refused_in}
use Rattle.replay_model.specs.Acting.{is_for, acted_on}
use Rattle.replay_model.specs.Turning.{all_turns, asked}
use Rattle.replay_model.specs.Serving.{wake}
use Rattle.replay_model.specs.Taking.{flushed_at_begin, entry_of}
use Rattle.lane_core.specs.declared.counts.Counts.{Counts}
use Rattle.lane_core.specs.declared.lane.Lane.{Lane}

-- ---- what stays

pub record SameLane (old new : Lane) : Type 0 where
  pub number : new.number ≡ old.number
  pub session : new.session ≡ old.session
  pub ssrc : new.ssrc ≡ old.ssrc
  pub settings : settings_of new.buffer ≡ settings_of old.buffer
  pub pushes : pushes_of new.buffer ≡ pushes_of old.buffer

-- and after one packet
pub record PushedLane (old new : Lane) : Type 0 where
  pub number : new.number ≡ old.number
  pub session : new.session ≡ old.session
  pub ssrc : new.ssrc ≡ old.ssrc
  pub settings : settings_of new.buffer ≡ settings_of old.buffer
  pub pushes : pushes_of new.buffer ≡ pushes_of old.buffer + 1

-- ---- counts

abbrev pub no_counts : Counts
no_counts = record { out = 0; lost = 0; refused = 0 }

-- these are the counts of the lines
pub record Tally (counts : Counts) (xs : List BinLine) : Type 0 where
  pub out : counts.out ≡ sum_by out_in xs
  pub lost : counts.lost ≡ sum_by lost_in xs
  pub refused : counts.refused ≡ sum_by refused_in xs

-- these counts and those of the others are the counts of the lines
pub record Tallies (others counts : Counts) (xs : List BinLine) : Type 0 where
  pub out : others.out + counts.out ≡ sum_by out_in xs
  pub lost : others.lost + counts.lost ≡ sum_by lost_in xs
  pub refused : others.refused + counts.refused ≡ sum_by refused_in xs

-- what lines count
pub record Sums (xs : List BinLine) (out lost refused : ℕ) : Type 0 where
  pub out_is : sum_by out_in xs ≡ out
  pub lost_is : sum_by lost_in xs ≡ lost
  pub refused_is : sum_by refused_in xs ≡ refused

-- ---- a lane that was made

pub record FreshLane (opening : Opening) (l : Lane) : Type 0 where
  pub number_is : l.number ≡ opening.lane
  pub session_is : l.session ≡ opening.session
  pub ssrc_is : l.ssrc ≡ opening.ssrc
  pub settings : settings_of l.buffer ≡ opening.settings
  pub pushes : pushes_of l.buffer ≡ 0
  pub wake : l.wake ≡ None
  pub counts : l.counts ≡ no_counts
  pub stands : Stands l.buffer []

-- ---- on the way

-- the lane has this number, is this stream's, and its buffer was made with these settings and
-- stands for the history
pub record LaneHolds (opening : Opening) (n : ℕ) (l : Lane) (h : History) : Type 0 where
  pub number_is : l.number ≡ n
  pub session_is : l.session ≡ opening.session
  pub ssrc_is : l.ssrc ≡ opening.ssrc
  pub settings : settings_of l.buffer ≡ opening.settings
  pub stands : Stands l.buffer h

-- what there was before: in the list that lines are added to, and of the log
pub record Base : Type 0 where
  pub before : List BinLine
  pub log : List BinLine

-- the list has the lines that the log has since then
pub record Adds (base : Base) (told all : List BinLine) : Type 0 where
  pub more : List BinLine
  pub told_is : told ≡ base.before ++ more
  pub all_is : all ≡ base.log ++ more

-- what stands around a lane while it is called: the histories of the other lanes, and their counts
pub record Around : Type 0 where
  pub base : Base
  pub histories : ℕ → History
  pub counts : Counts

-- the other lanes are as they were, all lines are counted, and these ones were added
pub record LaneTells (o : ℕ → Opening) (a : Around) (n : ℕ) (l : Lane) (told : List BinLine)
    (tl : Timeline) : Type 0 where
  pub holds : LaneHolds (o n) n l (lane n tl)
  pub others : (k : ℕ) → k ≢ n → lane k tl ≡ a.histories k
  pub tallies : Tallies a.counts l.counts (lines tl)
  pub written : Adds a.base told (lines tl)

-- and the wake that is kept is the lane's
pub record LaneRests (o : ℕ → Opening) (a : Around) (n : ℕ) (l : Lane) (told : List BinLine)
    (tl : Timeline) : Type 0 where
  pub tells : LaneTells o a n l told tl
  pub wake_is : l.wake ≡ wake o tl n

-- and these numbers are those that it asked for in its last turns
pub record LaneAsks (o : ℕ → Opening) (a : Around) (n : ℕ) (l : Lane) (numbers : List ℕ)
    (told : List BinLine) (tl : Timeline) : Type 0 where
  pub rests : LaneRests o a n l told tl
  pub asked_is : numbers ≡ asked (lane n tl)

-- ---- what a call does to a lane, whatever stands around it

-- a step of the lane of a number along the timeline
abbrev pub LaneStep : Type 0
LaneStep = (ℕ → Opening) → ℕ → Timeline → Timeline

-- it goes on along the timeline by this step
abbrev pub GoesOn : Lane → Lane → List BinLine → List BinLine → LaneStep → Type 0
GoesOn old new before after step =
    (o : ℕ → Opening) (a : Around) (n : ℕ) (tl : Timeline)
    → LaneTells o a n old before tl → LaneTells o a n new after (step o n tl)

-- and comes to rest, and these numbers are asked for
abbrev pub ComesToRest : Lane → Lane → List BinLine → List BinLine → LaneStep → List ℕ → Type 0
ComesToRest old new before after step numbers =
    (o : ℕ → Opening) (a : Around) (n : ℕ) (tl : Timeline)
    → LaneTells o a n old before tl → LaneAsks o a n new numbers after (step o n tl)

-- the same of turns, where nothing was asked for in those just before
abbrev pub Settles : Lane → Lane → List BinLine → List BinLine → LaneStep → List ℕ → Type 0
Settles old new before after step numbers =
    (o : ℕ → Opening) (a : Around) (n : ℕ) (tl : Timeline)
    → asked (lane n tl) ≡ [] → LaneTells o a n old before tl
    → LaneAsks o a n new numbers after (step o n tl)

-- ---- steps

-- a lane begins with this latency, and in its flush
abbrev pub begun_with : ℕ → ℕ → Bool → LaneStep
begun_with t ns flushing o n tl = flushed_at_begin flushing t n (At t n (Latency ns) ∷ tl)

-- a packet is pushed
abbrev pub pushed_at : ℕ → Arrival → LaneStep
pushed_at t a o n tl = At t n (entry_of a (reply_to_push (o n).settings (lane n tl) a)) ∷ tl

-- the time that a sender report has in a lane is told, where it has one
abbrev pub sync_told : ℕ → ℕ → Option SyncInfo → Timeline → Timeline
sync_told t n None tl = tl
sync_told t n (Some info) tl = Told t (told.Sync t n info.local) ∷ tl

abbrev pub replied_at : ℕ → ℕ → ℕ → ℕ → Option SyncInfo → Timeline → Timeline
replied_at t ntp_ns rtp n reply tl = sync_told t n reply (At t n (Report ntp_ns rtp reply) ∷ tl)

-- a sender report comes, and its time is told
abbrev pub reported_at : ℕ → ℕ → ℕ → LaneStep
reported_at t ntp_ns rtp o n tl =
    replied_at t ntp_ns rtp n (report (o n).settings (lane n tl) ntp_ns rtp) tl

-- the clock comes to a time, and turns are taken
abbrev pub ticked_at : ℕ → LaneStep
ticked_at t o n tl = all_turns o t n (At t n (Clock t) ∷ tl)

-- a pusher ends, and turns are taken
abbrev pub ended_at : ℕ → ℕ → LaneStep
ended_at t p o n tl = all_turns o t n (At t n (Ends p) ∷ tl)

-- an item comes to a lane, where it is for its session
abbrev pub met_at : Item → LaneStep
met_at i o n tl =
    if is_for i.action (o n).session then acted_on i.time n i.action tl else tl

-- what the reply to a sender report is, whatever stands around the lane
abbrev pub Replies : Lane → ℕ → ℕ → Option SyncInfo → Type 0
Replies l ntp_ns rtp reply =
    (opening : Opening) (n : ℕ) (h : History)
    → LaneHolds opening n l h → reply ≡ report opening.settings h ntp_ns rtp

-- ---- what is sent

-- the line of the requests that a lane made in its last turns, if it made any
abbrev pub nack_lines : Contents → Opening → ℕ → List ℕ → List BinLine
nack_lines c opening t [] = []
nack_lines c opening t (seq ∷ more) =
    told.Nack t opening.session (nack_bytes c.settings.ssrc opening.ssrc (seq ∷ more)) ∷ []
