use Rattle.std.specs.Prelude.{◌≡◌, ◌<◌, ◌≤◌, ◌||◌, nat_le, ℕ}
use Rattle.bin_core.specs.Touching.{is_listed}
use Rattle.bin_core.proofs.touched.list_begun.Given as goal

abbrev pub invariant-loop-lane : goal.invariant-loop-lane
invariant-loop-lane l =
    (l.from ≤ l.lane) × ((k : ℕ) → k < l.lane → is_listed l.touched.items k ≡ (nat_le l.from k || is_listed l.initial.touched.items k))
