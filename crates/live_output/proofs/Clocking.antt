-- The greatest distance of clocks, one clock after the other.
use Rattle.std.proofs.Common.{◌≡◌, ℕ, Bool, true, false, List, [], ◌∷◌, max, map, refl, ap, ◌∙◌}
use Rattle.std.specs.Prelude.{fold, filter, cond, if◌then◌else◌}
use Rattle.live_output.specs.declared.clocks.LaneClock.{LaneClock}
use Rattle.live_output.specs.Clocks.{ahead, have_one_name, offset, further}

pub further_all : (c : LaneClock) (most : ℕ) (xs : List LaneClock)
    → fold (further c) most xs
    ≡ fold max most (map (λ other. ahead c.info other.info) (filter (have_one_name c) xs))
further_all c most [] = refl
further_all c most (x ∷ xs) = at (have_one_name c x) (λ m. further_all c m xs)
  where
    far : LaneClock → ℕ
    far other = ahead c.info other.info

    at : (b : Bool)
        → ((m : ℕ) → fold (further c) m xs ≡ fold max m (map far (filter (have_one_name c) xs)))
        → fold (further c) (if b then max most (far x) else most) xs
        ≡ fold max most
        (map far (cond b (x ∷ filter (have_one_name c) xs) (filter (have_one_name c) xs)))
    at true on = on (max most (far x))
    at false on = on most
