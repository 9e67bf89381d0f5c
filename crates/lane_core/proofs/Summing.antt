-- The counts of the lanes are summed up.
use Rattle.std.proofs.Common.{ℕ, ◌≡◌, ◌+◌, ◌*◌, ◌<◌, ◌≤◌, ◌^◌, List, length, take, arith}
use Rattle.std.specs.Prelude.{get_or, sum_by}
use Rattle.std.proofs.lemmas.List.Sums.{sum_by_more}
use Rattle.lane_core.specs.declared.lane.Lane.{Lane}

-- one lane more is summed up
pub record More (f : Lane → ℕ) (ls : List Lane) (i n x : ℕ) : Type 0 where
  pub is : n + x ≡ sum_by f (take (i + 1) ls)
  pub most : n + x ≤ (i + 1) * 2 ^ 44
  pub small : n + x < 2 ^ 64

pub one_more : (f : Lane → ℕ) (ls : List Lane) (i n : ℕ) (l : Lane) → i < length ls → length ls ≤ 64 → f (get_or ls i l) ≤ 2 ^ 44 → n ≡ sum_by f (take i ls) → n ≤ i * 2 ^ 44 → More f ls i n (f (get_or ls i l))
one_more f ls i n l lt long small e most =
    record { is = omega (arith, sum_by_more f ls i l lt); most = omega arith; small = omega arith }
