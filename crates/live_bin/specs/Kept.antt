-- What the type of a lane's state keeps.
use Rattle.std.specs.Prelude.{ℕ, ◌≡◌, List, length, reverse}
use Rattle.jitter_model.specs.History.{has_ended, end_told}
use Rattle.jitter_core.specs.declared.buffer.Buffer.{Buffer}
use Rattle.jitter_core.specs.Words.{Stands, settings_of}
use Rattle.live_bin.specs.declared.plan.PlanLane.{PlanLane}
use Rattle.live_bin.specs.declared.plan.Plan.{Plan}
use Rattle.live_bin.specs.declared.entry.Entry.{Entry}
use Rattle.live_bin.specs.declared.lane.Progress.{Progress}
use Rattle.live_bin.specs.declared.lane.Lane.{Lane}
use Rattle.live_bin.specs.Lookup.{lane_of}
use Rattle.live_bin.specs.Journals.{past, given, controls, InOrder}
use Rattle.live_bin.specs.Steps.{given_of, ended_of}

-- the counts and flags are the journal's
pub record Counts (l : PlanLane) (g : Progress) (es : List Entry) : Type 0 where
  pub given_long : length g.given ≡ 8
  pub given_are : (q : ℕ) → given_of g q ≡ given q es
  pub controls_are : g.controls ≡ controls es
  pub ended_long : length g.ended ≡ 9
  pub ended_are : (q : ℕ) → ended_of g q ≡ has_ended (past l es) q
  pub told_is : g.told ≡ end_told (past l es)

-- the journal, the newest entry first, fits the plan's lane, and the buffer, the counts and the flags are those that it leaves
pub record Keeps (l : PlanLane) (b : Buffer) (g : Progress) (es : List Entry) : Type 0 where
  pub in_order : InOrder l es
  pub stands : Stands b (past l es)
  pub settings : settings_of b ≡ l.settings
  pub counts : Counts l g es

abbrev pub IsKept : Plan → Lane → Type 0
IsKept p s = ∥ Keeps (lane_of p s.number) s.buffer s.progress (reverse s.journal.items) ∥₁
