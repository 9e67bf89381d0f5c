-- One history more.
use Rattle.std.proofs.Common.{ℕ, ◌≡◌, ◌+◌, List, [], ◌∷◌, ◌++◌, length, subst, arith}
use Rattle.live_bin.specs.declared.history.LaneHistory.{LaneHistory}
use Rattle.live_bin.specs.declared.plan.Plan.{Plan}
use Rattle.live_bin.specs.Lookup.{lane_of}
use Rattle.live_bin.specs.Whole.{IsWhole}
use Rattle.live_run.specs.Histories.{AreFrom}

pub from_snoc : (p : Plan) (n m : ℕ) (hs : List LaneHistory) (h : LaneHistory)
    → AreFrom p n hs → m ≡ n + length hs → IsWhole (lane_of p m) h.entries.items
    → AreFrom p n (hs ++ h ∷ [])
from_snoc p n m [] h f is w =
    (subst (λ (x : ℕ). IsWhole (lane_of p x) h.entries.items) (omega (arith, is)) w, tt)
from_snoc p n m (x ∷ xs) h f is w = (f.0, from_snoc p (n + 1) m xs h f.1 (omega (arith, is)) w)
