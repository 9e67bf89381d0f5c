-- The histories of a run.
use Rattle.std.specs.Prelude.{ℕ, ◌≡◌, ◌+◌, List, [], ◌∷◌, length, ⊤}
use Rattle.live_bin.specs.declared.history.LaneHistory.{LaneHistory}
use Rattle.live_bin.specs.declared.plan.Plan.{Plan}
use Rattle.live_bin.specs.Lookup.{lane_of}
use Rattle.live_bin.specs.Whole.{IsWhole}

-- the histories of the lanes from n on, each of which fits the plan and is complete
abbrev pub AreFrom : Plan → ℕ → List LaneHistory → Type 0
AreFrom p n [] = ⊤
AreFrom p n (h ∷ hs) = IsWhole (lane_of p n) h.entries.items × AreFrom p (n + 1) hs

-- one for each lane, in the plan's order
abbrev pub AreWhole : Plan → List LaneHistory → Type 0
AreWhole p hs = (length hs ≡ length p.lanes) × AreFrom p 0 hs
