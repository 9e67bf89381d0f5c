-- Journals that fit a plan's lane, the newest entry first.
use Rattle.std.specs.Prelude.{ℕ, ◌≡◌, ◌+◌, ◌==◌, ◌⊎◌, Bool, true, false, List, [], ◌∷◌, Option, Some, None, is_some, if◌then◌else◌, ⊤}
use Rattle.rtp_units.specs.declared.SyncInfo.{SyncInfo}
use Rattle.jitter_model.specs.declared.Arrival.{Arrival}
use Rattle.jitter_model.specs.declared.Origin.{Origin}
use Rattle.jitter_model.specs.declared.Origin.TheVariants.{Original}
use Rattle.jitter_model.specs.declared.Entry.{Entry as Call}
use Rattle.jitter_model.specs.declared.Entry.TheVariants as call
use Rattle.jitter_model.specs.declared.Turn.TheVariants as reply
use Rattle.jitter_model.specs.History.{History, is_pusher, has_ended, all_ended}
use Rattle.jitter_model.specs.Turns.{turn}
use Rattle.jitter_model.specs.Runs.{Run}
use Rattle.live_bin.specs.declared.plan.Delivery.{Delivery}
use Rattle.live_bin.specs.declared.plan.Delivery.TheVariants as brought
use Rattle.live_bin.specs.declared.plan.ControlEvent.{ControlEvent}
use Rattle.live_bin.specs.declared.plan.ControlEvent.TheVariants as control
use Rattle.live_bin.specs.declared.plan.PlanLane.{PlanLane}
use Rattle.live_bin.specs.declared.entry.Entry.{Entry}
use Rattle.live_bin.specs.declared.entry.Entry.TheVariants.{Push, Report, Clock, FlushStart, FlushStop, Latency, Ends, Packet, Lost, Request, End}
use Rattle.live_bin.specs.Plans.{delivery, event}

abbrev pub no_arrival : Arrival
no_arrival =
    record { pusher = 0; k = 0; stamp = 0; origin = Original; packet = record { seq = 0; rtp = 0; pt = 0; marker = false; payload = 0; bytes = [] } }

-- the packet of a delivery
abbrev pub arrival_of : Option Delivery → Arrival
arrival_of None = no_arrival
arrival_of (Some (brought.Packet a)) = a
arrival_of (Some (brought.Report q k ntp_ns rtp)) = no_arrival

-- a report's reply
abbrev pub reply_of : ℕ → Option ℕ → Option SyncInfo
reply_of ntp_ns None = None
reply_of ntp_ns (Some local) = Some (record { ntp_ns = ntp_ns; local = local })

-- the call with its reply that an entry stands for, with the plan's packet
abbrev pub stands_for : PlanLane → Entry → Call
stands_for l (Push q k stamp seq kind v n dropped) = call.Push (arrival_of (delivery l q k)) v n dropped
stands_for l (Report q k ntp_ns rtp local) = call.Report ntp_ns rtp (reply_of ntp_ns local)
stands_for l (Clock by t) = call.Clock t
stands_for l (FlushStart count) = call.FlushStart count
stands_for l FlushStop = call.FlushStop
stands_for l (Latency ns) = call.Latency ns
stands_for l (Ends q) = call.Ends q
stands_for l (Packet n pts p) = call.Turned (reply.Packet n pts p)
stands_for l (Lost n count pts duration) = call.Turned (reply.Lost n count pts duration)
stands_for l (Request n k) = call.Turned (reply.Request n k)
stands_for l End = call.Turned reply.End

-- the history of the lane's buffer that a journal stands for
abbrev pub past : PlanLane → List Entry → History
past l [] = []
past l (e ∷ es) = stands_for l e ∷ past l es

-- how many deliveries of this pusher came
abbrev pub given : ℕ → List Entry → ℕ
given q [] = 0
given q (Push r k stamp seq kind v n dropped ∷ es) = if r == q then given q es + 1 else given q es
given q (Report r k ntp_ns rtp local ∷ es) = if r == q then given q es + 1 else given q es
given q (_ ∷ es) = given q es

-- how many events of the control list came
abbrev pub controls : List Entry → ℕ
controls [] = 0
controls (Clock by t ∷ es) = if by == 8 then controls es + 1 else controls es
controls (FlushStart count ∷ es) = controls es + 1
controls (FlushStop ∷ es) = controls es + 1
controls (Latency ns ∷ es) = controls es + 1
controls (_ ∷ es) = controls es

-- whether the plan has something left for this pusher
abbrev pub has_left : PlanLane → List Entry → ℕ → Bool
has_left l es q = if q == 8 then is_some (event l (controls es)) else is_some (delivery l q (given q es))

-- a push is the next delivery of its pusher, which hasn't ended
pub record IsPush (l : PlanLane) (q k stamp seq : ℕ) (origin : Origin) (es : List Entry) : Type 0 where
  pub arrival : Arrival
  pub order : k ≡ given q es
  pub delivery_is : delivery l q k ≡ Some (brought.Packet arrival)
  pub stamp_is : stamp ≡ arrival.stamp
  pub seq_is : seq ≡ arrival.packet.seq
  pub origin_is : origin ≡ arrival.origin
  pub goes_on : has_ended (past l es) q ≡ false

-- so is a report
pub record IsReport (l : PlanLane) (q k ntp_ns rtp : ℕ) (es : List Entry) : Type 0 where
  pub order : k ≡ given q es
  pub delivery_is : delivery l q k ≡ Some (brought.Report q k ntp_ns rtp)
  pub goes_on : has_ended (past l es) q ≡ false

-- the next event of the control list
pub record IsControl (l : PlanLane) (x : ControlEvent) (es : List Entry) : Type 0 where
  pub order : event l (controls es) ≡ Some x
  pub goes_on : has_ended (past l es) 8 ≡ false

-- all pushers ended, and the clock is stepped to the wake of the idle buffer
pub record IsTick (l : PlanLane) (t : ℕ) (es : List Entry) : Type 0 where
  pub ended : all_ended l.settings (past l es) ≡ true
  pub wake : turn l.settings (past l es) ≡ reply.Idle (Some t)

-- a pusher of the lane ends once, and after all that it has to bring
pub record IsEnding (l : PlanLane) (q : ℕ) (es : List Entry) : Type 0 where
  pub pusher : is_pusher l.settings.pushers q ≡ true
  pub goes_on : has_ended (past l es) q ≡ false
  pub nothing : has_left l es q ≡ false

-- the entry may come next; its reply is not looked at
abbrev pub Follows : PlanLane → Entry → List Entry → Type 0
Follows l (Push q k stamp seq kind v n dropped) es = IsPush l q k stamp seq kind es
Follows l (Report q k ntp_ns rtp local) es = IsReport l q k ntp_ns rtp es
Follows l (Clock by t) es = ((by ≡ 8) × IsControl l (control.Clock t) es) ⊎ ((by ≡ 9) × IsTick l t es)
Follows l (FlushStart count) es = IsControl l control.FlushStart es
Follows l FlushStop es = IsControl l control.FlushStop es
Follows l (Latency ns) es = IsControl l (control.Latency ns) es
Follows l (Ends q) es = IsEnding l q es
Follows l (Packet n pts p) es = ⊤
Follows l (Lost n count pts duration) es = ⊤
Follows l (Request n k) es = ⊤
Follows l End es = ⊤

-- each entry may come where it stands
abbrev pub InOrder : PlanLane → List Entry → Type 0
InOrder l [] = ⊤
InOrder l (e ∷ es) = Follows l e es × InOrder l es

-- the entries are in order, and with the plan's deliveries they are a run of the lane's buffer, so each reply is the one that the entries before it define
pub record Fits (l : PlanLane) (es : List Entry) : Type 0 where
  pub run : Run l.settings (past l es)
  pub in_order : InOrder l es
