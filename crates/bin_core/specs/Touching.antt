-- Which lanes tick.
use Rattle.std.specs.Prelude.{ℕ, ◌≡◌, ◌==◌, ◌≤◌, ◌<◌, Bool, true, false, List, Option, Some, None}
use Rattle.std.specs.List.{list_any}
use Rattle.front_model.specs.declared.Step.{Step}
use Rattle.front_model.specs.declared.Step.TheVariants as step

-- The lane stands in the list.
abbrev pub is_listed : List ℕ → ℕ → Bool
is_listed touched lane = list_any (λ n. n == lane) touched

-- the lane that a step gives something, if it gives one anything
abbrev pub lane_given_by : Step → Option ℕ
lane_given_by (step.Tell line) = None
lane_given_by (step.Open opening) = None
lane_given_by (step.Push to a) = Some to
lane_given_by (step.Sync to r) = Some to

-- the first listed lane from a number on, where it is below the end, and else the end
pub record IsNextListed (touched : List ℕ) (from end next : ℕ) : Type 0 where
  pub onward : from ≤ next
  pub within : next ≤ end
  pub listed : next < end → is_listed touched next ≡ true
  pub between : (k : ℕ) → from ≤ k → k < next → is_listed touched k ≡ false
