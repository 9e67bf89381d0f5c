-- How far the clocks of lanes with one CNAME are apart.
use Rattle.std.specs.Prelude.{ℕ, ◌+◌, ◌-◌, max, List, [], ◌∷◌, fold, filter, map, bytes_eq}
use Rattle.std.specs.Prelude.{Option, Some, None, Bool, if◌then◌else◌}
use Rattle.rtp_units.specs.declared.shared.SyncInfo.{SyncInfo}
use Rattle.live_bin.specs.declared.entry.Entry.{Entry}
use Rattle.live_bin.specs.declared.entry.Entry.TheVariants.{Report}
use Rattle.live_bin.specs.declared.history.LaneHistory.{LaneHistory}
use Rattle.live_bin.specs.declared.plan.Plan.{Plan}
use Rattle.live_bin.specs.declared.plan.PlanLane.{PlanLane}
use Rattle.live_bin.specs.Lookup.{lane_of}
use Rattle.live_output.specs.declared.clocks.LaneClock.{LaneClock}
use Rattle.live_output.specs.Numbered.{flat_map_from}

-- a report that has a time in the lane's timeline takes the place of the one before
abbrev pub sync_next : Option SyncInfo → Entry → Option SyncInfo
sync_next last (Report pusher k ntp_ns rtp (Some local)) =
    Some (record { ntp_ns = ntp_ns; local = local })
sync_next last e = last

-- the last report of a journal that has a time in the lane's timeline
abbrev pub last_sync : List Entry → Option SyncInfo
last_sync es = fold sync_next None es

abbrev pub clock_from : ℕ → Option (List ℕ) → Option SyncInfo → List LaneClock
clock_from lane (Some name) (Some info) = record { lane = lane; name = name; info = info } ∷ []
clock_from lane name info = []

-- the clock of a lane whose source has a CNAME and told the time
abbrev pub clock_of : Plan → ℕ → LaneHistory → List LaneClock
clock_of p lane h = clock_from lane (lane_of p lane).cname (last_sync h.entries.items)

-- the clocks of a run, in the order of the lanes
abbrev pub clocks : Plan → List LaneHistory → List LaneClock
clocks p hs = flat_map_from (clock_of p) 0 hs

-- by how much a report's NTP time less its local time is greater than another's
abbrev pub ahead : SyncInfo → SyncInfo → ℕ
ahead a b = (a.ntp_ns + b.local) - (b.ntp_ns + a.local)

-- they have one CNAME
abbrev pub have_one_name : LaneClock → LaneClock → Bool
have_one_name c other = bytes_eq other.name c.name

-- the greatest of these for the clocks with its CNAME
abbrev pub offset : List LaneClock → LaneClock → ℕ
offset all c = fold max 0 (map (λ other. ahead c.info other.info) (filter (have_one_name c) all))

-- the greatest one so far, with another clock
abbrev pub further : LaneClock → ℕ → LaneClock → ℕ
further c most other =
    if have_one_name c other then max most (ahead c.info other.info) else most
