-- The first request that isn't due yet, in closed form.
use Rattle.std.proofs.Common.{ℕ, zero, ◌≡◌, ◌+◌, ◌-◌, ◌*◌, ◌/◌, ◌≤◌, ◌<◌, true, false, arith, max, min}
use Rattle.std.specs.Prelude.{nat_lt}
use Rattle.std.proofs.Math.Nat.{le-div_iff_mul-le, div-lt_iff_lt-mul}
use Rattle.std.proofs.lemmas.Grind.{common_steps}
use Rattle.jitter_model.specs.declared.Settings.{Settings}
use Rattle.jitter_model.specs.Requests.{due}
use Rattle.jitter_model.specs.Turns.{Sight, first_undue}
use Rattle.jitter_model.proofs.Chain.{least_from_is}

is_due : (s : Settings) (first time q : ℕ) → 1 ≤ s.rtx_retry → first ≤ time → q ≤ (time - first) / s.rtx_retry → nat_lt time (due s first q) ≡ false
is_due s first time q some from le =
    let positive : zero < s.rtx_retry = omega arith in
    let x : q * s.rtx_retry ≤ time - first = (le-div_iff_mul-le positive).0 le in
    grind (arith, common_steps)

is_undue : (s : Settings) (first time q : ℕ) → 1 ≤ s.rtx_retry → first ≤ time → (time - first) / s.rtx_retry < q → nat_lt time (due s first q) ≡ true
is_undue s first time q some from less =
    let positive : zero < s.rtx_retry = omega arith in
    let x : time - first < q * s.rtx_retry = (div-lt_iff_lt-mul positive).0 less in
    grind (arith, common_steps)

-- where the first request is due: one past the greatest that is due, or past the last one served
pub undue_after : (s : Settings) (v : Sight) (first served : ℕ) → 1 ≤ s.rtx_retry → first ≤ v.time → served ≤ s.rtx_max + 1 → first_undue s v first served ≡ max served (min (s.rtx_max + 1) ((v.time - first) / s.rtx_retry + 1))
undue_after s v first served some from small =
    least_from_is (λ k. nat_lt v.time (due s first k)) served (s.rtx_max + 1 - served) (max served (min (s.rtx_max + 1) ((v.time - first) / s.rtx_retry + 1)))
    (omega arith) (omega arith)
    (λ q a b. is_due s first v.time q some from (omega arith))
    (λ less. is_undue s first v.time (max served (min (s.rtx_max + 1) ((v.time - first) / s.rtx_retry + 1))) some from (omega arith))

-- where it isn't: the first unserved one
pub undue_before : (s : Settings) (v : Sight) (first served : ℕ) → v.time < first → served ≤ s.rtx_max + 1 → first_undue s v first served ≡ served
undue_before s v first served before small =
    least_from_is (λ k. nat_lt v.time (due s first k)) served (s.rtx_max + 1 - served) served
    (omega arith) (omega arith)
    (λ q a b. absurd (omega arith))
    (λ less. later_than (v.time) first (served * s.rtx_retry) before)
  where
    later_than : (t f more : ℕ) → t < f → nat_lt t (f + more) ≡ true
    later_than t f more h = grind (arith, common_steps)
