-- Short facts of timelines.
use Rattle.std.proofs.Common.{ℕ, suc, ◌≡◌, Bool, true, false, ap, List}
use Rattle.std.specs.Prelude.{slice_get, if◌then◌else◌}
use Rattle.script_lang.specs.Contents.{Contents}
use Rattle.front_model.specs.declared.Opening.{Opening}
use Rattle.replay_model.specs.Events.{Timeline, openings}
use Rattle.replay_model.specs.Lanes.{opening_or, opened}
use Rattle.replay_model.specs.Turning.{ticked}
use Rattle.replay_model.specs.Acting.{ticked_where}

-- how a lane began, where the same lanes began
pub same_opened : (c : Contents) (old new : Timeline) (l : ℕ) → openings new ≡ openings old → opened c new l ≡ opened c old l
same_opened c old new l e = ap (λ (xs : List Opening). opening_or c l (slice_get xs l)) e

-- one more lane ticks, or doesn't
pub where_not : (c : Contents) (o : ℕ → Opening) (t : ℕ) (passes : ℕ → Bool) (l : ℕ) (tl : Timeline) → passes l ≡ false → ticked_where c o t passes (suc l) tl ≡ ticked_where c o t passes l tl
where_not c o t passes l tl b = ap (λ (x : Bool). if x then ticked c o t l (ticked_where c o t passes l tl) else ticked_where c o t passes l tl) b

pub where_yes : (c : Contents) (o : ℕ → Opening) (t : ℕ) (passes : ℕ → Bool) (l : ℕ) (tl : Timeline) → passes l ≡ true → ticked_where c o t passes (suc l) tl ≡ ticked c o t l (ticked_where c o t passes l tl)
where_yes c o t passes l tl b = ap (λ (x : Bool). if x then ticked c o t l (ticked_where c o t passes l tl) else ticked_where c o t passes l tl) b
