-- Journals that are complete.
use Rattle.std.specs.Prelude.{ℕ, ◌≡◌, Bool, true, false, List, [], ◌∷◌, reverse}
use Rattle.jitter_model.specs.History.{is_pusher, all_ended, end_told}
use Rattle.live_bin.specs.declared.plan.PlanLane.{PlanLane}
use Rattle.live_bin.specs.declared.entry.Entry.{Entry}
use Rattle.live_bin.specs.declared.entry.Entry.TheVariants.{End}
use Rattle.live_bin.specs.Journals.{past, has_left, Fits}

abbrev pub is_last : List Entry → Bool
is_last [] = false
is_last (End ∷ es) = true
is_last (_ ∷ es) = false

abbrev pub before_last : List Entry → List Entry
before_last [] = []
before_last (e ∷ es) = es

-- the newest entry is the only End, every pusher ended, and the plan has nothing left for any
pub record IsComplete (l : PlanLane) (es : List Entry) : Type 0 where
  pub last : is_last es ≡ true
  pub once : end_told (past l (before_last es)) ≡ false
  pub ended : all_ended l.settings (past l es) ≡ true
  pub nothing : (q : ℕ) → is_pusher l.settings.pushers q ≡ true → has_left l es q ≡ false

-- a journal, the oldest entry first, that fits and is complete
abbrev pub IsWhole : PlanLane → List Entry → Type 0
IsWhole l items = ∥ (Fits l (reverse items) × IsComplete l (reverse items)) ∥₁
