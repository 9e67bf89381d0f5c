-- What contracts say of a lane's state.
use Rattle.std.specs.Prelude.{ℕ, Bool, not, ◌&&◌, ◌||◌, if◌then◌else◌, List, [], ◌∷◌, reverse, Option, Some, None}
use Rattle.jitter_model.specs.declared.Settings.{Settings}
use Rattle.jitter_model.specs.declared.Arrival.{Arrival}
use Rattle.jitter_model.specs.History.{History, is_pusher, has_ended, end_told, is_end}
use Rattle.jitter_model.specs.Accepted.{aside}
use Rattle.jitter_model.specs.Verdicts.{verdict, reply_number, aside_dropped}
use Rattle.jitter_model.specs.Turns.{turn}
use Rattle.jitter_model.specs.Runs.{flush_count, report}
use Rattle.live_bin.specs.declared.plan.Delivery.{Delivery}
use Rattle.live_bin.specs.declared.plan.Delivery.TheVariants as brought
use Rattle.live_bin.specs.declared.plan.ControlEvent.{ControlEvent}
use Rattle.live_bin.specs.declared.plan.ControlEvent.TheVariants as control
use Rattle.live_bin.specs.declared.plan.Plan.{Plan}
use Rattle.live_bin.specs.declared.plan.PlanLane.{PlanLane}
use Rattle.live_bin.specs.declared.entry.Entry.{Entry}
use Rattle.live_bin.specs.declared.entry.Entry.TheVariants.{Report, Clock, FlushStart, FlushStop, Latency, Ends}
use Rattle.live_bin.specs.declared.entry.Next.{Next}
use Rattle.live_bin.specs.declared.entry.Next.TheVariants.{Stopped}
use Rattle.live_bin.specs.declared.lane.Lane.{Lane}
use Rattle.live_bin.specs.Plans.{delivery, event}
use Rattle.live_bin.specs.Lookup.{lane_of}
use Rattle.live_bin.specs.Journals.{past, given, controls, has_left}
use Rattle.live_bin.specs.Steps.{push_entry, local_of, entries_of, next_after}

-- the journal, the newest entry first
abbrev pub newest : Lane → List Entry
newest s = reverse s.journal.items

-- the plan's lane
abbrev pub lane_in : Plan → Lane → PlanLane
lane_in p s = lane_of p s.number

-- the history of the buffer that the journal stands for
abbrev pub history : Plan → Lane → History
history p s = past (lane_in p s) (newest s)

-- the first delivery of this pusher that isn't in the journal
abbrev pub delivery_of : Plan → Lane → ℕ → Option Delivery
delivery_of p s q = delivery (lane_in p s) q (given q (newest s))

-- a push with the reply that a history defines
abbrev pub pushed_by : Settings → History → ℕ → ℕ → Arrival → Entry
pushed_by s h q k a = push_entry q k a (verdict s h a) (reply_number h a (verdict s h a)) (aside_dropped (aside h) a (verdict s h a))

-- a delivery's entry with the reply that a history defines
abbrev pub entry_of : Settings → History → ℕ → ℕ → Option Delivery → List Entry
entry_of s h q k None = []
entry_of s h q k (Some (brought.Packet a)) = pushed_by s h q k a ∷ []
entry_of s h q k (Some (brought.Report r j ntp_ns rtp)) = Report q k ntp_ns rtp (local_of (report s h ntp_ns rtp)) ∷ []

-- what a delivery adds to the journal
abbrev pub delivered : Plan → Lane → ℕ → List Entry
delivered p s q = entry_of (lane_in p s).settings (history p s) q (given q (newest s)) (delivery_of p s q)

-- the first event of the control list that isn't in the journal
abbrev pub event_of : Plan → Lane → Option ControlEvent
event_of p s = event (lane_in p s) (controls (newest s))

abbrev pub entry_of_event : History → Option ControlEvent → List Entry
entry_of_event h None = []
entry_of_event h (Some (control.Clock t)) = Clock 8 t ∷ []
entry_of_event h (Some control.FlushStart) = FlushStart (flush_count h) ∷ []
entry_of_event h (Some control.FlushStop) = FlushStop ∷ []
entry_of_event h (Some (control.Latency ns)) = Latency ns ∷ []

-- what a control event adds to the journal
abbrev pub controlled : Plan → Lane → List Entry
controlled p s = entry_of_event (history p s) (event_of p s)

-- whether a pusher may end: it is one of the lane's, hasn't ended, and has nothing left
abbrev pub may_end : Plan → Lane → ℕ → Bool
may_end p s q = is_pusher (lane_in p s).settings.pushers q && (not (has_ended (history p s) q) && not (has_left (lane_in p s) (newest s) q))

abbrev pub ended : Bool → ℕ → List Entry
ended b q = if b then Ends q ∷ [] else []

-- what a turn adds to the journal
abbrev pub turned : Plan → Lane → List Entry
turned p s = if s.stopped then [] else entries_of (turn (lane_in p s).settings (history p s))

-- whether the journal has End after a turn
abbrev pub is_over : Plan → Lane → Bool
is_over p s = is_end (turn (lane_in p s).settings (history p s)) || end_told (history p s)

-- what a turn answers
abbrev pub answer : Plan → Lane → Next
answer p s = if s.stopped then Stopped else next_after (is_over p s) (turn (lane_in p s).settings (history p s))
