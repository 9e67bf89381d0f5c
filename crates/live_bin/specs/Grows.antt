-- Lanes whose journals go on.
use Rattle.std.specs.Prelude.{ℕ, ◌≡◌, ◌<◌, ◌-◌, true, false, ◌∷◌, length, Some, None, if◌then◌else◌}
use mathlib.Core.List.{IsPrefix}
use Rattle.jitter_model.specs.declared.Entry.TheVariants.{Turned}
use Rattle.jitter_model.specs.declared.Turn.{Turn}
use Rattle.jitter_model.specs.declared.Turn.TheVariants.{Idle}
use Rattle.jitter_model.specs.History.{History, is_pusher, all_ended, end_told, is_flushing}
use Rattle.jitter_model.specs.Turns.{turn, is_quiet, left}
use Rattle.live_bin.specs.declared.plan.Plan.{Plan}
use Rattle.live_bin.specs.declared.plan.PlanLane.{PlanLane}
use Rattle.live_bin.specs.declared.entry.Next.{Next}
use Rattle.live_bin.specs.declared.entry.Next.TheVariants.{Again, Wait, Flushing, Ended, Stopped}
use Rattle.live_bin.specs.declared.lane.Progress.{Progress}
use Rattle.live_bin.specs.declared.lane.Lane.{Lane}
use Rattle.live_bin.specs.Plans.{queue}
use Rattle.live_bin.specs.Steps.{given_of, ended_of}
use Rattle.live_bin.specs.Words.{lane_in, history}

-- the journal goes on, and what ended stays so
pub record Grows (old new : Lane) : Type 0 where
  pub number : new.number ≡ old.number
  pub stopped : new.stopped ≡ old.stopped
  pub journal : IsPrefix old.journal.items new.journal.items
  pub ended : (q : ℕ) → ended_of old.progress q ≡ true → ended_of new.progress q ≡ true

-- every pusher of the lane ended
abbrev pub HaveEnded : PlanLane → Lane → Type 0
HaveEnded l s = (q : ℕ) → is_pusher l.settings.pushers q ≡ true → ended_of s.progress q ≡ true

-- how many deliveries of a pusher are left
abbrev pub waiting : PlanLane → Progress → ℕ → ℕ
waiting l g q = length (queue l q) - given_of g q

-- how many events of the control list are left
abbrev pub pending : PlanLane → Progress → ℕ
pending l g = length l.events - g.controls

-- all pushers ended and no flush runs, but End isn't told yet
pub record IsReady (p : Plan) (s : Lane) : Type 0 where
  pub on : s.stopped ≡ false
  pub ended : all_ended (lane_in p s).settings (history p s) ≡ true
  pub calm : is_flushing (history p s) ≡ false
  pub untold : end_told (history p s) ≡ false

-- the turn that the lane's buffer would take
abbrev pub turn_of : Plan → Lane → Turn
turn_of p s = turn (lane_in p s).settings (history p s)

-- how many turns at most are still answered with something else than Idle or Flushing, if nothing else comes
abbrev pub turns_left : Plan → Lane → ℕ
turns_left p s = left (lane_in p s).settings (history p s)

abbrev pub turned_on : Turn → History → History
turned_on r h = if is_quiet r then h else Turned r ∷ h

-- the history that a turn leaves
abbrev pub after_turn : Plan → Lane → History
after_turn p s = if s.stopped then history p s else turned_on (turn_of p s) (history p s)

pub record GoesOn (p : Plan) (old new : Lane) : Type 0 where
  pub ready : IsReady p new
  pub fewer : turns_left p new < turns_left p old

pub record Sleeps (p : Plan) (old new : Lane) (w : ℕ) : Type 0 where
  pub ready : IsReady p new
  pub wake : turn_of p new ≡ Idle (Some w)
  pub was : is_quiet (turn_of p old) ≡ true
  pub same : turns_left p new ≡ turns_left p old

-- what a turn comes to on a lane that is ready
abbrev pub Comes : Plan → Lane → Lane → Next → Type 0
Comes p old new Again = GoesOn p old new
Comes p old new (Wait None) = ⊥
Comes p old new (Wait (Some w)) = Sleeps p old new w
Comes p old new Flushing = ⊥
Comes p old new Ended = end_told (history p new) ≡ true
Comes p old new Stopped = ⊥

-- the clock came to a wake of a lane that is ready
pub record Wakes (p : Plan) (old new : Lane) : Type 0 where
  pub ready : IsReady p old → IsReady p new
  pub same : turns_left p new ≡ turns_left p old
  pub awake : is_quiet (turn_of p new) ≡ false
