-- What a state has of a segment: of its accepted packets, the next number, and the numbers that are out.
use Rattle.std.specs.Prelude.{ℕ, ◌≡◌, Bool, false, List, length, Option, None, if◌then◌else◌}
use Rattle.std.specs.FinMap as map
use Rattle.skew_estimator.specs.Estimator.{StandsFor}
use Rattle.jitter_model.specs.Accepted.{Taken, top, least}
use Rattle.jitter_model.specs.Covered.{count_in}
use Rattle.jitter_model.specs.Verdicts.{is_late}
use Rattle.jitter_model.specs.Times.{heights, skew_heights, marks, found, first_pts}
use Rattle.jitter_core.specs.declared.state.State.{State}
use Rattle.jitter_core.specs.Marks.{kept_two}
use Rattle.jitter_core.specs.Peaks.{peaks, above_next}
use Rattle.jitter_core.specs.Served.{served_in}

-- the numbers, and the held packets, each with its presentation time
pub record Placed (s : State) (ps : List Taken) (next : Option ℕ) (out : ℕ → Bool) : Type 0 where
  pub next_is : s.span.next ≡ next
  pub top_is : s.span.top ≡ top ps
  pub least_is : s.span.least ≡ least ps
  pub held_are : (n : ℕ) → map.get s.held n ≡ (if out n then None else found s.settings ps n)
  pub count_is : s.span.held ≡ count_in out ps

-- the estimator stands for the heights
pub record Clocked (s : State) (ps : List Taken) : Type 0 where
  pub rate_is : s.skew.rate ≡ s.settings.rate
  pub mode_is : s.skew.mode ≡ s.settings.mode
  pub stands : StandsFor s.skew (skew_heights (heights ps))

-- the time of the first packet, the heights from the greatest one that isn't above the next number, and the last two heights, each with its time
pub record Marked (s : State) (ps : List Taken) (next : Option ℕ) : Type 0 where
  pub first_is : s.span.first_pts ≡ first_pts s.settings ps
  pub marks_are : s.heights ≡ kept_two next (marks s.settings ps)

-- the peaks above the next number, or all where that isn't known, and how many requests of each number from the next one on were served
pub record Requested (s : State) (ps : List Taken) (next : Option ℕ) (served : ℕ → ℕ) : Type 0 where
  pub peaks_are : s.peaks ≡ above_next next (peaks ps)
  pub places : length s.served ≡ 16384
  pub served_are : (q : ℕ) → is_late next q ≡ false → served_in s.served q ≡ served q
