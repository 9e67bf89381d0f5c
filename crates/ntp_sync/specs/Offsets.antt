-- How far the clocks of lanes with one CNAME are apart.
use Rattle.std.specs.Prelude.{◌≡◌, ◌↔◌, ℕ, nat_eq, ℤ, pos, ◌+ℤ◌, ◌-ℤ◌, ◌≤ℤ◌, if◌then◌else◌, List, [], ◌∷◌, map, Contains, Option, Some, None}
use Rattle.std.specs.List.Sorted.{IsStrictlyIncreasing}
use Rattle.std.specs.Map.{lookup}
use Rattle.rtp_units.specs.declared.shared.SyncInfo.{SyncInfo}
use Rattle.ntp_sync.specs.declared.sync.LaneReport.{LaneReport}

-- a report of a lane: the CNAME of its source, and a sender report against the lane's clock
pub record Call : Type 0 where
  pub lane : ℕ
  pub cname : List ℕ
  pub info : SyncInfo

-- how far the report's NTP time is ahead of its local time
abbrev pub delta_of : SyncInfo → ℤ
delta_of info = pos info.ntp_ns -ℤ pos info.local

abbrev pub report_of : List ℕ → ℤ → LaneReport
report_of cname delta = record { cname = cname; delta = delta }

-- what is kept of a lane
abbrev pub kept : List (ℕ × LaneReport) → ℕ → Option LaneReport
kept reports lane = lookup (nat_eq lane) reports

-- a lane's last report in these calls, the latest call first
abbrev pub last_report : List Call → ℕ → Option LaneReport
last_report [] lane = None
last_report (c ∷ before) lane = if nat_eq c.lane lane then Some (report_of c.cname (delta_of c.info)) else last_report before lane

-- The synchroniser went through these calls, the latest first: of each lane it has the last report.
abbrev pub StandsFor : List (ℕ × LaneReport) → List Call → Type 0
StandsFor reports calls = (lane : ℕ) → kept reports lane ≡ last_report calls lane

-- The lane's last report has this CNAME and this delta.
abbrev pub HasDelta : (ℕ → Option LaneReport) → List ℕ → ℕ → ℤ → Type 0
HasDelta last cname lane delta = last lane ≡ Some (report_of cname delta)

-- the least delta of the lanes of a CNAME
pub record IsLeast (last : ℕ → Option LaneReport) (cname : List ℕ) (least : ℤ) : Type 0 where
  pub some : (lane : ℕ) × HasDelta last cname lane least
  pub others : (lane : ℕ) (delta : ℤ) → HasDelta last cname lane delta → least ≤ℤ delta

-- A lane's offset is its delta less the least delta of its CNAME.
abbrev pub IsOffset : (ℕ → Option LaneReport) → List ℕ → ℕ → ℕ → Type 0
IsOffset last cname lane offset = (least : ℤ) × IsLeast last cname least × HasDelta last cname lane (least +ℤ pos offset)

-- the lanes of a CNAME in order, each with its offset
pub record AreOffsets (last : ℕ → Option LaneReport) (cname : List ℕ) (offsets : List (ℕ × ℕ)) : Type 0 where
  pub in_order : IsStrictlyIncreasing (map (λ o. o.0) offsets)
  pub each : (lane offset : ℕ) → Contains offsets (lane, offset) ↔ IsOffset last cname lane offset
