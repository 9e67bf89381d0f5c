-- What the steps of the front come to.
use Rattle.std.specs.Prelude.{ℕ, ℤ, zero, suc, ◌==◌, ◌||◌, nat_le, List, [], ◌∷◌, ◌++◌, map, Option, Some, None, option_to_list, option_map, Bool, true, false, if◌then◌else◌}
use Rattle.std.specs.List.{list_any}
use Rattle.rtp_units.specs.declared.SyncInfo.{SyncInfo}
use Rattle.jitter_model.specs.declared.Arrival.{Arrival}
use Rattle.jitter_model.specs.declared.Pushed.{Pushed}
use Rattle.jitter_model.specs.declared.Entry.{Entry}
use Rattle.jitter_model.specs.declared.Entry.TheVariants.{Push, Latency, Report}
use Rattle.jitter_model.specs.Runs.{report}
use Rattle.jitter_model.specs.Verdicts.{pushed as reply_to_push}
use Rattle.ntp_sync.specs.declared.sync.LaneReport.{LaneReport}
use Rattle.ntp_sync.specs.Offsets.{Call, last_report}
use Rattle.ntp_sync.specs.Found.{least_in, offsets_in}
use Rattle.script_lang.specs.Contents.{Contents}
use Rattle.timeline.specs.declared.line.BinLine.{BinLine}
use Rattle.timeline.specs.declared.line.BinLine.TheVariants as told
use Rattle.front_model.specs.declared.Opening.{Opening}
use Rattle.front_model.specs.declared.SenderReport.{SenderReport}
use Rattle.front_model.specs.declared.Step.{Step}
use Rattle.front_model.specs.declared.Step.TheVariants as step
use Rattle.front_model.specs.Events.{FrontEvent}
use Rattle.front_model.specs.Sessions.{cname}
use Rattle.front_model.specs.Steps.{steps}
use Rattle.replay_model.specs.Events.{Timeline, Fronted, Began, Told, At, Kept, front, lane, kept}
use Rattle.replay_model.specs.Lines.{all_told}
use Rattle.replay_model.specs.Lanes.{lane_count, opened, latency_of, is_flushing_of}
use Rattle.replay_model.specs.Acting.{flush_begun, ticked_where}

-- ---- the begin of a lane

abbrev pub flushed_at_begin : Bool → ℕ → ℕ → Timeline → Timeline
flushed_at_begin true t l tl = flush_begun t l tl
flushed_at_begin false t l tl = tl

-- a lane begins, as the next one, with the latency that its session has, and in its flush
abbrev pub begun : Contents → ℕ → Opening → Timeline → Timeline
begun c t o tl =
    flushed_at_begin (is_flushing_of o.session tl) t (lane_count tl)
    (At t (lane_count tl) (Latency (latency_of c o.session tl)) ∷ Began t o ∷ tl)

-- ---- a packet

abbrev pub entry_of : Arrival → Pushed → Entry
entry_of a reply = Push a reply.verdict reply.number reply.aside_dropped

-- a packet is pushed into a lane
abbrev pub pushed : Contents → ℕ → ℕ → Arrival → Timeline → Timeline
pushed c t l a tl =
    At t l (entry_of a (reply_to_push (opened c tl l).settings (lane l tl) a)) ∷ tl

-- ---- a sender report

-- the last report that was kept of each of the first lanes, in their order
abbrev pub last_reports : List Call → ℕ → List (ℕ × LaneReport)
last_reports calls zero = []
last_reports calls (suc l) =
    last_reports calls l ++ option_to_list (option_map (λ r. (l, r)) (last_report calls l))

-- how far lanes are behind the first one of their CNAME, where this is the least of what they are
-- ahead by
abbrev pub offsets_from : List ℕ → List (ℕ × LaneReport) → Option ℤ → List (ℕ × ℕ)
offsets_from name reports None = []
offsets_from name reports (Some least) = offsets_in name least reports

-- the lanes of a CNAME in order, each with its offset
abbrev pub offsets : List ℕ → List (ℕ × LaneReport) → List (ℕ × ℕ)
offsets name reports = offsets_from name reports (least_in name (map (λ e. e.1) reports))

abbrev pub offset_line : ℕ → ℕ × ℕ → BinLine
offset_line t offset = told.Offset t offset.0 offset.1

-- the offsets of a CNAME are told
abbrev pub offsets_told : ℕ → List ℕ → Timeline → Timeline
offsets_told t name tl =
    all_told t (map (offset_line t) (offsets name (last_reports (kept tl) (lane_count tl)))) tl

abbrev pub call_of : ℕ → List ℕ → SyncInfo → Call
call_of l name info = record { lane = l; cname = name; info = info }

-- a report of a source that has a CNAME is kept
abbrev pub kept_under : ℕ → ℕ → SyncInfo → Option (List ℕ) → Timeline → Timeline
kept_under t l info None tl = tl
kept_under t l info (Some name) tl = offsets_told t name (Kept t (call_of l name info) ∷ tl)

-- the CNAME of a lane's source
abbrev pub name_of : Contents → ℕ → Timeline → Option (List ℕ)
name_of c l tl = cname c (front tl) (opened c tl l).session (opened c tl l).ssrc

-- where the report has a time in the lane
abbrev pub synced_at : Contents → ℕ → ℕ → Option SyncInfo → Timeline → Timeline
synced_at c t l None tl = tl
synced_at c t l (Some info) tl =
    kept_under t l info (name_of c l tl) (Told t (told.Sync t l info.local) ∷ tl)

-- a sender report comes to a lane
abbrev pub synced_by : Contents → ℕ → ℕ → SenderReport → Option SyncInfo → Timeline → Timeline
synced_by c t l r reply tl = synced_at c t l reply (At t l (Report r.ntp_ns r.rtp reply) ∷ tl)

abbrev pub synced : Contents → ℕ → ℕ → SenderReport → Timeline → Timeline
synced c t l r tl =
    synced_by c t l r (report (opened c tl l).settings (lane l tl) r.ntp_ns r.rtp) tl

-- ---- steps

abbrev pub stepped : Contents → ℕ → Step → Timeline → Timeline
stepped c t (step.Tell line) tl = Told t line ∷ tl
stepped c t (step.Open opening) tl = begun c t opening tl
stepped c t (step.Push l a) tl = pushed c t l a tl
stepped c t (step.Sync l r) tl = synced c t l r tl

-- steps one after the other
abbrev pub all_stepped : Contents → ℕ → List Step → Timeline → Timeline
all_stepped c t [] tl = tl
all_stepped c t (x ∷ xs) tl = all_stepped c t xs (stepped c t x tl)

-- something comes to the front, which does its steps
abbrev pub fronted : Contents → ℕ → FrontEvent → Timeline → Timeline
fronted c t e tl = all_stepped c t (steps c (front tl) e) (Fronted t e ∷ tl)

-- ---- what follows

-- The step gives this lane something.
abbrev pub touches : ℕ → Step → Bool
touches l (step.Tell line) = false
touches l (step.Open opening) = false
touches l (step.Push to a) = to == l
touches l (step.Sync to r) = to == l

-- The lane began behind so many, or was given something.
abbrev pub is_touched : ℕ → List Step → ℕ → Bool
is_touched count steps l = nat_le count l || list_any (touches l) steps

-- the lanes that steps touched tick, in order, where there were so many before
abbrev pub all_ticked : Contents → ℕ → ℕ → List Step → Timeline → Timeline
all_ticked c t count steps tl =
    ticked_where c (opened c tl) t (is_touched count steps) (lane_count tl) tl

-- a record comes to the front at a time, and the lanes that it touched tick
abbrev pub taken : Contents → ℕ → FrontEvent → Timeline → Timeline
taken c t e tl =
    all_ticked c t (lane_count tl) (steps c (front tl) e) (fronted c t e tl)
