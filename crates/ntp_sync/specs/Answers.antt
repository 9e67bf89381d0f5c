-- The offsets of a CNAME as a function of the last reports.
use Rattle.std.specs.Prelude.{◌≡◌, ◌<◌, ℕ, zero, suc, ◌+◌, ℤ, List, [], ◌∷◌, map, Option, Some, None}
use Rattle.ntp_sync.specs.declared.sync.LaneReport.{LaneReport}
use Rattle.ntp_sync.specs.Found.{least_in, offsets_in}
use Rattle.ntp_sync.specs.Offsets.{Call, last_report, AreOffsets}

abbrev pub report_at : ℕ → Option LaneReport → List (ℕ × LaneReport) → List (ℕ × LaneReport)
report_at lane None rest = rest
report_at lane (Some r) rest = (lane, r) ∷ rest

-- the last reports of this lane and those after it, so many lanes in all, in order
abbrev pub reports_from : (ℕ → Option LaneReport) → ℕ → ℕ → List (ℕ × LaneReport)
reports_from last from zero = []
reports_from last from (suc n) = report_at from (last from) (reports_from last (from + 1) n)

-- Lanes are numbers of eight bits.
unfoldable pub reports : (ℕ → Option LaneReport) → List (ℕ × LaneReport)
reports last = reports_from last 0 256

abbrev pub offsets_above : List ℕ → Option ℤ → List (ℕ × LaneReport) → List (ℕ × ℕ)
offsets_above cname None rs = []
offsets_above cname (Some least) rs = offsets_in cname least rs

-- the lanes with this CNAME in order, each with its delta less the least of them
abbrev pub offsets_of : (ℕ → Option LaneReport) → List ℕ → List (ℕ × ℕ)
offsets_of last cname =
    offsets_above cname (least_in cname (map (λ e. e.1) (reports last))) (reports last)

-- ---- laws

abbrev pub AreLanes : List Call → Type 0
AreLanes [] = Unit {0}
AreLanes (c ∷ before) = (c.lane < 256) × AreLanes before

-- One list has the offsets of a CNAME.
abbrev pub IsOneList : Type 0
IsOneList =
    (last : ℕ → Option LaneReport) (cname : List ℕ) (xs ys : List (ℕ × ℕ))
    → AreOffsets last cname xs → AreOffsets last cname ys → xs ≡ ys

-- After any calls it is the function's.
abbrev pub IsTheFunction : Type 0
IsTheFunction =
    (calls : List Call) (cname : List ℕ) → AreLanes calls
    → AreOffsets (last_report calls) cname (offsets_of (last_report calls) cname)
