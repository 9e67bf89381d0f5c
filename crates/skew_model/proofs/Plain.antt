use Rattle.std.specs.Prelude.{ℕ, ◌∷◌, [], List, Option, Some, None, refl}
use Rattle.rtp_units.specs.declared.Mode.TheVariants.{Plain}
use Rattle.skew_model.specs.Skew.{Height, Estimate, estimate, estimate_after, HasNoSkew}

after : (rate : ℕ) (o : Option Estimate) (p : Height) → HasNoSkew o → HasNoSkew (Some (estimate_after rate Plain o p))
after rate None p h = refl
after rate (Some e) p h = h

pub no_skew : (rate : ℕ) (heights : List Height) → HasNoSkew (estimate rate Plain heights)
no_skew rate [] = tt
no_skew rate (p ∷ ps) = after rate (estimate rate Plain ps) p (no_skew rate ps)
