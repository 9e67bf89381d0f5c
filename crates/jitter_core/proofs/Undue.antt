-- Which requests are due at a time.
use Rattle.std.proofs.Common.{ℕ, ◌≡◌, ◌+◌, ◌-◌, ◌*◌, ◌≤◌, ◌<◌, true, false, arith, max, min}
use Rattle.std.specs.Prelude.{◌/◌, nat_lt}
use Rattle.std.proofs.lemmas.Grind.{common_steps}
use Rattle.std.proofs.Math.Nat.{le-div_iff_mul-le}
use Rattle.jitter_model.specs.Turns.{least_from}
use Rattle.jitter_model.specs.Known.{SearchesFindTheLeast}

-- a request up to the last one that is due is due
is_due : (retry first time k : ℕ) → 0 < retry → first ≤ time → k ≤ (time - first) / retry → nat_lt time (first + k * retry) ≡ false
is_due retry first time k some le to =
    let product : k * retry ≤ time - first = (le-div_iff_mul-le {k = retry} {x = k} {y = time - first} some).0 to in
    grind (arith, common_steps)

-- one after it isn't
not_due : (retry first time k : ℕ) → 0 < retry → first ≤ time → (time - first) / retry < k → nat_lt time (first + k * retry) ≡ true
not_due retry first time k some le from =
    let bad : k * retry ≤ time - first → ⊥ = λ h. (let to : k ≤ (time - first) / retry = (le-div_iff_mul-le {k = retry} {x = k} {y = time - first} some).1 h in omega arith) in
    let product : time - first < k * retry = omega (arith, bad) in
    grind (arith, common_steps)

pub undue_is : SearchesFindTheLeast → (retry first time served end m : ℕ) → 0 < retry → first ≤ time → m ≡ max served (min end ((time - first) / retry + 1)) → least_from (λ k. nat_lt time (first + k * retry)) served (end - served) ≡ m
undue_is searches retry first time served end m some le is =
    searches.is (λ k. nat_lt time (first + k * retry)) served (end - served) m (omega arith) (omega arith)
    (λ q from to. is_due retry first time q some le (omega arith))
    (λ less. not_due retry first time m some le (omega arith))

-- before the first one is due none is
pub none_due : SearchesFindTheLeast → (retry first time served end : ℕ) → time < first → least_from (λ k. nat_lt time (first + k * retry)) served (end - served) ≡ served
none_due searches retry first time served end lt =
    searches.is (λ k. nat_lt time (first + k * retry)) served (end - served) served (omega arith) (omega arith)
    (λ q from to. absurd (omega arith))
    (λ less. grind (arith, common_steps))
