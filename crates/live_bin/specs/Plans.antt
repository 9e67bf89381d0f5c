-- What a plan brings to a lane, and what is right of it.
use Rattle.std.specs.Prelude.{ℕ, ◌≡◌, ◌≤◌, ◌<◌, ◌+◌, ◌^◌, Bool, true, false, List, [], ◌∷◌, length, Option, slice_get, slice_index_or, ⊤}
use Rattle.jitter_model.specs.declared.Settings.{Settings}
use Rattle.jitter_model.specs.declared.Arrival.{Arrival}
use Rattle.jitter_model.specs.History.{is_pusher}
use Rattle.jitter_model.specs.Runs.{IsValid}
use Rattle.live_bin.specs.declared.plan.Delivery.{Delivery}
use Rattle.live_bin.specs.declared.plan.Delivery.TheVariants.{Packet, Report}
use Rattle.live_bin.specs.declared.plan.ControlEvent.{ControlEvent}
use Rattle.live_bin.specs.declared.plan.ControlEvent.TheVariants.{Clock, FlushStart, FlushStop, Latency}
use Rattle.live_bin.specs.declared.plan.PlanLane.{PlanLane}

-- what this pusher brings to the lane, in its order
abbrev pub queue : PlanLane → ℕ → List Delivery
queue l q = slice_index_or l.queues q []

-- its delivery number k
abbrev pub delivery : PlanLane → ℕ → ℕ → Option Delivery
delivery l q k = slice_get (queue l q) k

-- the event number k of the lane's control list
abbrev pub event : PlanLane → ℕ → Option ControlEvent
event l k = slice_get l.events k

-- how many of these are packets
abbrev pub packets : List Delivery → ℕ
packets [] = 0
packets (Packet a ∷ ds) = packets ds + 1
packets (Report q k ntp_ns rtp ∷ ds) = packets ds

abbrev pub packets_in : List (List Delivery) → ℕ
packets_in [] = 0
packets_in (ds ∷ queues) = packets ds + packets_in queues

-- whether a flush runs after these events, if it ran before or not
abbrev pub flushes_after : Bool → List ControlEvent → Bool
flushes_after b [] = b
flushes_after b (FlushStart ∷ xs) = flushes_after true xs
flushes_after b (FlushStop ∷ xs) = flushes_after false xs
flushes_after b (_ ∷ xs) = flushes_after b xs

-- a pusher of the lane, and its delivery number k
pub record IsPacketOf (s : Settings) (q k : ℕ) (a : Arrival) : Type 0 where
  pub pusher : a.pusher ≡ q
  pub number : a.k ≡ k
  pub stamp : a.stamp < 2 ^ 63
  pub allowed : is_pusher s.pushers q ≡ true

pub record IsReportOf (s : Settings) (q k p j : ℕ) : Type 0 where
  pub pusher : p ≡ q
  pub number : j ≡ k
  pub allowed : is_pusher s.pushers q ≡ true

abbrev pub IsDelivery : Settings → ℕ → ℕ → Delivery → Type 0
IsDelivery s q k (Packet a) = IsPacketOf s q k a
IsDelivery s q k (Report p j ntp_ns rtp) = IsReportOf s q k p j

-- deliveries of a pusher, numbered from k on
abbrev pub AreDeliveries : Settings → ℕ → ℕ → List Delivery → Type 0
AreDeliveries s q k [] = ⊤
AreDeliveries s q k (d ∷ ds) = IsDelivery s q k d × AreDeliveries s q (k + 1) ds

-- what the pushers from q on bring
abbrev pub AreQueues : Settings → ℕ → List (List Delivery) → Type 0
AreQueues s q [] = ⊤
AreQueues s q (ds ∷ queues) = AreDeliveries s q 0 ds × AreQueues s (q + 1) queues

-- the ranges of an event's numbers
abbrev pub IsEvent : ControlEvent → Type 0
IsEvent (Clock t) = t < 2 ^ 63 + 2 ^ 50
IsEvent FlushStart = ⊤
IsEvent FlushStop = ⊤
IsEvent (Latency ns) = ns ≤ 600000000000

abbrev pub AreEvents : List ControlEvent → Type 0
AreEvents [] = ⊤
AreEvents (x ∷ xs) = IsEvent x × AreEvents xs

-- what is brought meets the conditions of a buffer's calls, each delivery has its number, fewer than 2^31 packets come, and no flush is left open
pub record IsLane (l : PlanLane) : Type 0 where
  pub settings : IsValid l.settings
  pub control : is_pusher l.settings.pushers 8 ≡ true
  pub sessions : length l.queues ≤ 8
  pub deliveries : AreQueues l.settings 0 l.queues
  pub few : packets_in l.queues < 2147483648
  pub events : AreEvents l.events
  pub flushes : flushes_after false l.events ≡ false

abbrev pub AreRight : List PlanLane → Type 0
AreRight [] = ⊤
AreRight (l ∷ ls) = IsLane l × AreRight ls
