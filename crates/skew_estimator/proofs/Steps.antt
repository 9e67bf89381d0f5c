-- A height after an estimate, where only the differences that count are known.
use Rattle.std.proofs.Common.{◌≡◌, ℕ, Bool, true, false, if◌then◌else◌, List, ◌∷◌, length, take, Some, None, refl, sym, ap, ◌∙◌, arith}
use Rattle.std.specs.Prelude.{ℤ}
use Rattle.skew_model.specs.Skew.{Estimate, started, sent_at, difference, is_apart, in_order, with_difference, least, fills, percent, filled_mean, filling_mean}
use Rattle.skew_estimator.specs.declared.segment.Segment.{Segment}
use Rattle.skew_estimator.specs.Estimator.{cut}
use Rattle.skew_estimator.specs.Segment.{estimate_of, filled_with}
use Rattle.skew_estimator.proofs.Least.{take-whole}

-- by its sender's time and its difference
abbrev by_difference : Segment → List ℤ → ℕ → ℤ → ℤ → ℤ → Estimate
by_difference s ws stamp t sent d = cut (if is_apart d s.skew then started stamp t else with_difference (estimate_of s ws) t sent d)

module _ (rate : ℕ) (s : Segment) (ws : List ℤ) (stamp : ℕ) (t sent d : ℤ) (is_sent : sent ≡ sent_at rate (estimate_of s ws) t) (is_difference : d ≡ difference (estimate_of s ws) stamp sent) where
  as_measured : cut (in_order rate (estimate_of s ws) stamp t) ≡ by_difference s ws stamp t sent d
  as_measured = (λ k. by_difference s ws stamp t (sym is_sent k) (difference (estimate_of s ws) stamp (sym is_sent k))) ∙ ap (by_difference s ws stamp t sent) (sym is_difference)

  pub measured-apart : is_apart d s.skew ≡ true → started stamp t ≡ cut (in_order rate (estimate_of s ws) stamp t)
  measured-apart apart = sym (as_measured ∙ ap (λ b. cut (if b then started stamp t else with_difference (estimate_of s ws) t sent d)) apart)

  close : is_apart d s.skew ≡ false → cut (in_order rate (estimate_of s ws) stamp t) ≡ cut (with_difference (estimate_of s ws) t sent d)
  close near = as_measured ∙ ap (λ b. cut (if b then started stamp t else with_difference (estimate_of s ws) t sent d)) near

  pub measured-filled : (n : ℕ) → is_apart d s.skew ≡ false → s.size ≡ Some n
      → estimate_of (record s { latest = t; skew = filled_mean (least (take n (d ∷ ws))) s.skew }) (take n (d ∷ ws)) ≡ cut (in_order rate (estimate_of s ws) stamp t)
  measured-filled n near size = sym (close near
      ∙ ap (λ z. cut (with_difference (record { base = s.base; start = s.start; latest = s.latest; skew = s.skew; differences = ws; size = z }) t sent d)) size
      ∙ ap (λ z. estimate_of (record s { latest = t; skew = filled_mean (least (take n (d ∷ ws))) s.skew; size = z }) (take n (d ∷ ws))) (sym size))

  -- not filled before
  abbrev either : Bool → Estimate
  either b = record {
    base = s.base;
    start = s.start;
    latest = t;
    skew = if b then least (d ∷ ws) else filling_mean (percent (length (d ∷ ws)) sent) (least (d ∷ ws)) s.skew;
    differences = d ∷ ws;
    size = if b then Some (length (d ∷ ws)) else None;
  }

  cut_either : (b : Bool) → cut (either b) ≡ either b
  cut_either true = ap (λ l. record { base = s.base; start = s.start; latest = t; skew = least (d ∷ ws); differences = l; size = Some (length (d ∷ ws)) }) (take-whole (length (d ∷ ws)) (d ∷ ws) (omega arith))
  cut_either false = refl

  pub measured-filling : is_apart d s.skew ≡ false → s.size ≡ None → estimate_of (filled_with s (d ∷ ws) t sent) (d ∷ ws) ≡ cut (in_order rate (estimate_of s ws) stamp t)
  measured-filling near size = sym (close near
      ∙ ap (λ z. cut (with_difference (record { base = s.base; start = s.start; latest = s.latest; skew = s.skew; differences = ws; size = z }) t sent d)) size
      ∙ cut_either (fills (length (d ∷ ws)) sent))
