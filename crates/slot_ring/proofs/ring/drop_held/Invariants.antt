use Rattle.std.proofs.Common.{◌≡◌, ◌<◌, ℕ, map, length, get_or, is_some, None}
use Rattle.slot_ring.proofs.ring.drop_held.Given as goal

abbrev pub invariant-loop-index : goal.invariant-loop-index
invariant-loop-index g l = record {
  lender : l.slots.lender ≡ l.fn.slots.lender;
  marked : l.filled.items ≡ map is_some l.slots.places;
  long : length l.slots.places ≡ length l.fn.slots.places;
  below : (k : ℕ) → k < l.index → get_or l.slots.places k None ≡ None;
}
