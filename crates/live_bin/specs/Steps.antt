-- What the calls on a lane do.
use Rattle.std.specs.Prelude.{ℕ, ◌≡◌, ◌+◌, ◌<◌, ◌^◌, ◌==◌, ◌&&◌, ◌⊎◌, not, nat_lt, Bool, true, false, is_some, List, [], ◌∷◌, ◌++◌, Option, Some, None, if◌then◌else◌, slice_index_or, slice_set}
use Rattle.rtp_units.specs.declared.SyncInfo.{SyncInfo}
use Rattle.jitter_model.specs.declared.Arrival.{Arrival}
use Rattle.jitter_model.specs.declared.Verdict.{Verdict}
use Rattle.jitter_model.specs.declared.Turn.{Turn}
use Rattle.jitter_model.specs.declared.Turn.TheVariants as reply
use Rattle.jitter_model.specs.declared.Entry.{Entry as Call}
use Rattle.jitter_model.specs.declared.Entry.TheVariants as call
use Rattle.jitter_model.specs.History.{History, is_pusher}
use Rattle.jitter_model.specs.Turns.{turn}
use Rattle.jitter_core.specs.declared.buffer.Buffer.{Buffer}
use Rattle.jitter_core.specs.Words.{Stands, settings_of, pushes_of}
use Rattle.live_bin.specs.declared.plan.Delivery.{Delivery}
use Rattle.live_bin.specs.declared.plan.Delivery.TheVariants as brought
use Rattle.live_bin.specs.declared.plan.ControlEvent.{ControlEvent}
use Rattle.live_bin.specs.declared.plan.ControlEvent.TheVariants as control
use Rattle.live_bin.specs.declared.plan.PlanLane.{PlanLane}
use Rattle.live_bin.specs.declared.entry.Entry.{Entry}
use Rattle.live_bin.specs.declared.entry.Entry.TheVariants.{Push, Report, Clock, FlushStart, FlushStop, Latency, Packet, Lost, Request, End}
use Rattle.live_bin.specs.declared.entry.Next.{Next}
use Rattle.live_bin.specs.declared.entry.Next.TheVariants.{Again, Wait, Flushing, Ended, Stopped}
use Rattle.live_bin.specs.declared.lane.Progress.{Progress}
use Rattle.live_bin.specs.declared.lane.Lane.{Lane}
use Rattle.live_bin.specs.Plans.{delivery, event}

-- how many deliveries of this pusher came, by the state's counts
abbrev pub given_of : Progress → ℕ → ℕ
given_of g q = slice_index_or g.given q 0

-- whether this pusher ended, by the state's flags
abbrev pub ended_of : Progress → ℕ → Bool
ended_of g q = slice_index_or g.ended q false

abbrev pub with_given : Progress → ℕ → Progress
with_given g q = record g { given = slice_set g.given q (given_of g q + 1) }

abbrev pub with_control : Progress → Progress
with_control g = record g { controls = g.controls + 1 }

abbrev pub with_ended : Progress → ℕ → Progress
with_ended g q = record g { ended = slice_set g.ended q true }

abbrev pub with_told : Progress → Progress
with_told g = record g { told = true }

-- what comes next of this pusher, by the state's counts
abbrev pub next_delivery : PlanLane → Progress → ℕ → Option Delivery
next_delivery l g q = delivery l q (given_of g q)

-- whether the plan has something left for this pusher, by the state's counts
abbrev pub left_for : PlanLane → Progress → ℕ → Bool
left_for l g q = if q == 8 then is_some (event l g.controls) else is_some (next_delivery l g q)

-- whether a pusher may end, by the state's counts: it is one of the lane's, goes on, and has nothing left
abbrev pub can_end : PlanLane → Progress → ℕ → Bool
can_end l g q = nat_lt q 9 && (is_pusher l.settings.pushers q && (not (ended_of g q) && not (left_for l g q)))

-- what a buffer asks of a packet
pub record CanPush (b : Buffer) (a : Arrival) : Type 0 where
  pub pusher : is_pusher (settings_of b).pushers a.pusher ≡ true
  pub stamp : a.stamp < 2 ^ 63
  pub few : pushes_of b < 2 ^ 31

-- nothing changed that counts
pub record IsSame (old new : Lane) : Type 0 where
  pub number : new.number ≡ old.number
  pub stopped : new.stopped ≡ old.stopped
  pub progress : new.progress ≡ old.progress
  pub buffer : new.buffer ≡ old.buffer
  pub journal : new.journal.items ≡ old.journal.items

-- one entry was added, which the buffer takes as this call
pub record Adds (old new : Lane) (e : Entry) (x : Call) (g : Progress) : Type 0 where
  pub number : new.number ≡ old.number
  pub stopped : new.stopped ≡ old.stopped
  pub progress : new.progress ≡ g
  pub settings : settings_of new.buffer ≡ settings_of old.buffer
  pub journal : new.journal.items ≡ old.journal.items ++ e ∷ []
  pub buffer : (h : History) → Stands old.buffer h → Stands new.buffer (x ∷ h)

-- a turn was idle, or in a flush
pub record Rests (old new : Lane) (r : Turn) : Type 0 where
  pub number : new.number ≡ old.number
  pub stopped : new.stopped ≡ old.stopped
  pub progress : new.progress ≡ old.progress
  pub settings : settings_of new.buffer ≡ settings_of old.buffer
  pub journal : new.journal.items ≡ old.journal.items
  pub buffer : (h : History) → Stands old.buffer h → Stands new.buffer h
  pub reply : (h : History) → Stands old.buffer h → r ≡ turn (settings_of old.buffer) h

-- ---- deliveries

abbrev pub push_entry : ℕ → ℕ → Arrival → Verdict → ℕ → ℕ → Entry
push_entry q k a v n dropped = Push q k a.stamp a.packet.seq a.origin v n dropped

-- the time that a report's reply tells
abbrev pub local_of : Option SyncInfo → Option ℕ
local_of None = None
local_of (Some sync) = Some sync.local

abbrev pub Delivers : Lane → Lane → ℕ → Delivery → Type 0
Delivers old new q (brought.Packet a) =
    (v : Verdict) × (n : ℕ) × (dropped : ℕ) × Adds old new (push_entry q (given_of old.progress q) a v n dropped) (call.Push a v n dropped) (with_given old.progress q)
Delivers old new q (brought.Report p j ntp_ns rtp) =
    (r : Option SyncInfo) × Adds old new (Report q (given_of old.progress q) ntp_ns rtp (local_of r)) (call.Report ntp_ns rtp r) (with_given old.progress q)

-- the pusher's next delivery was given
abbrev pub DeliversNext : PlanLane → Lane → Lane → ℕ → Type 0
DeliversNext l old new q = (d : Delivery) × (next_delivery l old.progress q ≡ Some d) × Delivers old new q d

-- ---- control events

abbrev pub Controls : Lane → Lane → ControlEvent → Type 0
Controls old new (control.Clock t) = Adds old new (Clock 8 t) (call.Clock t) (with_control old.progress)
Controls old new control.FlushStart = (count : ℕ) × Adds old new (FlushStart count) (call.FlushStart count) (with_control old.progress)
Controls old new control.FlushStop = Adds old new FlushStop call.FlushStop (with_control old.progress)
Controls old new (control.Latency ns) = Adds old new (Latency ns) (call.Latency ns) (with_control old.progress)

abbrev pub ControlsNext : PlanLane → Lane → Lane → Type 0
ControlsNext l old new = (x : ControlEvent) × (event l old.progress.controls ≡ Some x) × Controls old new x

-- ---- turns

abbrev pub TakesTurn : Lane → Lane → Turn → Type 0
TakesTurn old new (reply.Packet n pts p) = Adds old new (Packet n pts p) (call.Turned (reply.Packet n pts p)) old.progress
TakesTurn old new (reply.Lost n count pts duration) = Adds old new (Lost n count pts duration) (call.Turned (reply.Lost n count pts duration)) old.progress
TakesTurn old new (reply.Request n k) = Adds old new (Request n k) (call.Turned (reply.Request n k)) old.progress
TakesTurn old new reply.End = Adds old new End (call.Turned reply.End) (with_told old.progress)
TakesTurn old new (reply.Idle wake) = Rests old new (reply.Idle wake)
TakesTurn old new reply.Flushing = Rests old new reply.Flushing

-- the entry of a turn's reply
abbrev pub entries_of : Turn → List Entry
entries_of (reply.Packet n pts p) = Packet n pts p ∷ []
entries_of (reply.Lost n count pts duration) = Lost n count pts duration ∷ []
entries_of (reply.Request n k) = Request n k ∷ []
entries_of reply.End = End ∷ []
entries_of (reply.Idle wake) = []
entries_of reply.Flushing = []

abbrev pub noted : Progress → Turn → Progress
noted g reply.End = with_told g
noted g _ = g

-- what a turn comes to, where End isn't told
abbrev pub next_by : Turn → Next
next_by (reply.Idle wake) = Wait wake
next_by reply.Flushing = Flushing
next_by reply.End = Ended
next_by _ = Again

-- what a turn comes to, after which End is told or not
abbrev pub next_after : Bool → Turn → Next
next_after told r = if told then Ended else next_by r

-- the lane has this reply's entry, and its buffer is as it was
abbrev pub Notes : Lane → Lane → Turn → Type 0
Notes old new r =
    (new.number ≡ old.number) × (new.stopped ≡ old.stopped) × (new.buffer ≡ old.buffer)
    × (new.progress ≡ noted old.progress r) × (new.journal.items ≡ old.journal.items ++ entries_of r)

abbrev pub TurnsOn : Lane → Lane → Next → Type 0
TurnsOn old new next = (r : Turn) × (next ≡ next_after new.progress.told r) × TakesTurn old new r

-- a call of turn on a lane that was stopped, or goes on
abbrev pub TurnDoes : Lane → Lane → Next → Type 0
TurnDoes old new next = ((old.stopped ≡ true) × (next ≡ Stopped) × IsSame old new) ⊎ ((old.stopped ≡ false) × TurnsOn old new next)
