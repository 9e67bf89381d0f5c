-- What is found in reports that stand in the order of their lanes.
use Rattle.std.specs.Prelude.{◌≡◌, ℕ, nat_eq, ℤ, pos, negsuc, ◌-ℤ◌, ◌≤ℤ◌, if◌then◌else◌, Bool, true, List, [], ◌∷◌, fold, Option, Some, None}
use Rattle.std.specs.Int.{int_min}
use Rattle.std.specs.Cmp.Lexicographic.{pointwise}
use Rattle.ntp_sync.specs.declared.sync.LaneReport.{LaneReport}

-- The report's CNAME is this one.
abbrev pub is_named : List ℕ → LaneReport → Bool
is_named cname r = pointwise nat_eq r.cname cname

abbrev pub lesser : Option ℤ → ℤ → Option ℤ
lesser None delta = Some delta
lesser (Some least) delta = Some (int_min least delta)

abbrev pub least_next : List ℕ → Option ℤ → LaneReport → Option ℤ
least_next cname least r = if is_named cname r then lesser least r.delta else least

-- the least delta of the reports with this CNAME
abbrev pub least_in : List ℕ → List LaneReport → Option ℤ
least_in cname reports = fold (least_next cname) None reports

abbrev pub natural : ℤ → ℕ
natural (pos n) = n
natural (negsuc n) = 0

-- the lanes of the reports with this CNAME, each with how far its delta is above the least
abbrev pub offsets_in : List ℕ → ℤ → List (ℕ × LaneReport) → List (ℕ × ℕ)
offsets_in cname least [] = []
offsets_in cname least (e ∷ es) = if is_named cname e.1 then (e.0, natural (e.1.delta -ℤ least)) ∷ offsets_in cname least es else offsets_in cname least es

-- Each report with this CNAME has a delta of at least this.
abbrev pub AreAbove : List ℕ → ℤ → List (ℕ × LaneReport) → Type 0
AreAbove cname least [] = Unit {0}
AreAbove cname least (e ∷ es) = (is_named cname e.1 ≡ true → least ≤ℤ e.1.delta) × AreAbove cname least es
