-- What the steps of a front bring to the lanes.
use Rattle.std.specs.Prelude.{ℕ, if◌then◌else◌, List, map, filter_map, Option, Some, None}
use Rattle.script_lang.specs.Facts.{session_numbers}
use Rattle.front_model.specs.declared.Step.{Step}
use Rattle.front_model.specs.declared.Step.TheVariants as step
use Rattle.front_model.specs.Fates.{Way, is_way}
use Rattle.live_bin.specs.declared.plan.Delivery.{Delivery}
use Rattle.live_bin.specs.declared.plan.Delivery.TheVariants.{Packet, Report}

-- what a step brings on this way, from a session to a lane
abbrev pub delivery_on : Way → Step → Option Delivery
delivery_on way (step.Tell line) = None
delivery_on way (step.Open opening) = None
delivery_on way (step.Push lane a) = if is_way way (a.pusher, lane) then Some (Packet a) else None
delivery_on way (step.Sync lane r) =
    if is_way way (r.pusher, lane) then Some (Report r.pusher r.k r.ntp_ns r.rtp) else None

-- all that steps bring on it, the first one first
abbrev pub deliveries : List Step → Way → List Delivery
deliveries steps way = filter_map (delivery_on way) steps

-- what the sessions bring to a lane, first what session 0 does
abbrev pub queues : List Step → ℕ → List (List Delivery)
queues steps lane = map (λ session. deliveries steps (session, lane)) session_numbers
