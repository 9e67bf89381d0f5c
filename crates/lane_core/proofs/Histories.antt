-- The histories of lanes and the openings, one more event.
use Rattle.std.proofs.Common.{ℕ, zero, suc, ◌≡◌, ◌≢◌, ◌<◌, Bool, true, false, refl, ap, List, [], ◌∷◌, ◌++◌, length, arith}
use Rattle.std.specs.Prelude.{◌==◌, slice_get, if◌then◌else◌}
use Rattle.std.proofs.lemmas.Grind.{common_steps}
use Rattle.jitter_model.specs.declared.Entry.{Entry}
use Rattle.front_model.specs.declared.Opening.{Opening}
use Rattle.replay_model.specs.Events.{Timeline, At, lane}

same : (n : ℕ) → (n == n) ≡ true
same n = grind (arith, common_steps)

other : (n m : ℕ) → n ≢ m → (n == m) ≡ false
other n m h = grind (arith, common_steps)

pub lane_here : (t l : ℕ) (e : Entry) (tl : Timeline) → lane l (At t l e ∷ tl) ≡ e ∷ lane l tl
lane_here t l e tl = ap (λ (b : Bool). if b then e ∷ lane l tl else lane l tl) (same l)

pub lane_other : (t k l : ℕ) (e : Entry) (tl : Timeline) → k ≢ l → lane l (At t k e ∷ tl) ≡ lane l tl
lane_other t k l e tl h = ap (λ (b : Bool). if b then e ∷ lane l tl else lane l tl) (other k l h)

pub at_append : (xs ys : List Opening) (l : ℕ) → l < length xs → slice_get (xs ++ ys) l ≡ slice_get xs l
at_append [] ys l lt = absurd (omega arith)
at_append (x ∷ xs) ys zero lt = refl
at_append (x ∷ xs) ys (suc l) lt = at_append xs ys l (omega arith)
