-- How the parts of an estimator hang together.
use Rattle.std.specs.Prelude.{◌≡◌, ℕ, ◌+◌, ◌*◌, ◌^◌, ◌<◌, ◌≤◌, ℤ, pos, ◌≤ℤ◌, neg_ℤ, List, length, Option, Some, None, MatchOption, if◌then◌else◌}
use Rattle.rtp_units.specs.declared.Mode.{Mode}
use Rattle.skew_model.specs.Skew.{Estimate, in_order, is_slave, fills, percent, filling_mean, least}
use Rattle.skew_estimator.specs.declared.segment.Segment.{Segment}
use Rattle.skew_estimator.specs.Near.{IsNear}

-- the estimate of a segment and its window
abbrev pub estimate_of : Segment → List ℤ → Estimate
estimate_of s window = record { base = s.base; start = s.start; latest = s.latest; skew = s.skew; differences = window; size = s.size }

abbrev pub with_latest : Segment → ℤ → Segment
with_latest s t = record s { latest = t }

-- an extended timestamp so many heights after the first
pub record IsWithin (t : ℤ) (heights : ℕ) : Type 0 where
  pub from : neg_ℤ (pos (2 ^ 32 + heights * 2 ^ 31)) ≤ℤ t
  pub to : t ≤ℤ pos (2 ^ 32 + heights * 2 ^ 31)

-- the window has some differences: fewer than 512 before it is filled, and then as many as its size
pub record IsFitted (size : Option ℕ) (window : List ℤ) : Type 0 where
  pub some : 0 < length window
  pub few : MatchOption size (length window < 512) (λ n. (length window ≡ n) × (n ≤ 512))

-- a segment after a difference, in front of this window, that isn't filled before it
abbrev pub filled_with : Segment → List ℤ → ℤ → ℤ → Segment
filled_with s window t sent =
    record s {
      latest = t;
      skew = if fills (length window) sent then least window else filling_mean (percent (length window) sent) (least window) s.skew;
      size = if fills (length window) sent then Some (length window) else None;
    }

-- an estimate after a height that is one above the one before it, in this mode
abbrev pub in_mode : Mode → ℕ → Estimate → ℕ → ℤ → Estimate
in_mode mode rate e stamp t = if is_slave mode then in_order rate e stamp t else record e { latest = t }

-- what holds of a segment and its window so many heights after the first
pub record IsKept (s : Segment) (window : List ℤ) (heights : ℕ) : Type 0 where
  pub start : IsWithin s.start heights
  pub latest : IsWithin s.latest heights
  pub near : IsNear s.skew
  pub fitted : IsFitted s.size window
