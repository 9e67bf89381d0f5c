-- A call on a value, by what the value keeps.
use Rattle.std.proofs.Common.{◌≡◌, ◌∙◌, ◌<◌, ◌≤◌, ℕ, ◌+◌, Bool, true, false, cond, List, [], ◌∷◌, ◌++◌, length, drop, Option, Some, None, Result, Ok, Err, refl, sym, ap, subst, arith}
use Rattle.std.specs.Prelude.{OnOk, OnErr, IfOk}
use Rattle.rtp_units.specs.declared.memory.OutOfMemory.{OutOfMemory}
use Rattle.depay.specs.declared.fragment.OpenUnit.{OpenUnit}
use Rattle.depay.specs.declared.outcome.Cause.TheVariants.{Large}
use Rattle.depay.specs.declared.outcome.Format.{Format}
use Rattle.depay.specs.declared.outcome.Outcome.{Outcome}
use Rattle.depay.specs.declared.outcome.Outcome.TheVariants.{Unit as Whole, Broken}
use Rattle.depay.specs.Payload.{is_over, has_end}
use Rattle.depay.specs.Fragments.{Packet, Call}
use Rattle.depay.specs.Outcomes.{calls_after}
use Rattle.depay.specs.Joining.{Joining, joining, closed, StandsFor, unit_next, bytes_next, on_outcomes, on_next}
use Rattle.depay.proofs.Deciding.{lt_holds, lt_fails}

-- a call that succeeds leads on, and one that fails leaves all
pub took : {X : Type 0} (r : Result X OutOfMemory) (old new next : Joining) (format : Format) (call : Call) (calls : List Call) → OnOk r (new ≡ next) → OnErr r (new ≡ old)
    → StandsFor next format (call ∷ calls) → StandsFor old format calls → StandsFor new format (calls_after call calls r)
took (Ok x) old new next format call calls ok err after before = subst (λ (d : Joining). StandsFor d format (call ∷ calls)) (sym ok) after
took (Err x) old new next format call calls ok err after before = subst (λ (d : Joining). StandsFor d format calls) (sym err) before

chosen_true : {X : Type 0} (b : Bool) (x y : X) → b ≡ true → cond b x y ≡ x
chosen_true true x y e = refl
chosen_true false x y e = absurd cc

chosen_false : {X : Type 0} (b : Bool) (x y : X) → b ≡ false → cond b x y ≡ y
chosen_false true x y e = absurd cc
chosen_false false x y e = refl

-- ---- a packet that goes on: too large, the last, or another

pub large_outcomes : (d : Joining) (u : OpenUnit) (p : Packet) → 1048576 < length (bytes_next d p) → on_outcomes d u p ≡ Broken p.number Large ∷ []
large_outcomes d u p lt = chosen_true (is_over (length (bytes_next d p))) (Broken p.number Large ∷ []) (cond (has_end p.payload) (Whole u.first p.number u.pts (bytes_next d p) ∷ []) []) (lt_holds 1048576 (length (bytes_next d p)) lt)

pub large_next : (d : Joining) (u : OpenUnit) (p : Packet) → 1048576 < length (bytes_next d p) → on_next d u p ≡ closed d
large_next d u p lt =
    chosen_true (is_over (length (bytes_next d p))) (closed d) (cond (has_end p.payload) (closed d) (joining d.format (Some (unit_next u p)) (bytes_next d p))) (lt_holds 1048576 (length (bytes_next d p)) lt)

fits_outcomes : (d : Joining) (u : OpenUnit) (p : Packet) (b : Bool) → length (bytes_next d p) ≤ 1048576 → has_end p.payload ≡ b
    → on_outcomes d u p ≡ cond b (Whole u.first p.number u.pts (bytes_next d p) ∷ []) []
fits_outcomes d u p b le e =
    chosen_false (is_over (length (bytes_next d p))) (Broken p.number Large ∷ []) (cond (has_end p.payload) (Whole u.first p.number u.pts (bytes_next d p) ∷ []) []) (lt_fails 1048576 (length (bytes_next d p)) le)
    ∙ ap (λ (x : Bool). cond x (Whole u.first p.number u.pts (bytes_next d p) ∷ []) []) e

fits_next : (d : Joining) (u : OpenUnit) (p : Packet) (b : Bool) → length (bytes_next d p) ≤ 1048576 → has_end p.payload ≡ b
    → on_next d u p ≡ cond b (closed d) (joining d.format (Some (unit_next u p)) (bytes_next d p))
fits_next d u p b le e =
    chosen_false (is_over (length (bytes_next d p))) (closed d) (cond (has_end p.payload) (closed d) (joining d.format (Some (unit_next u p)) (bytes_next d p))) (lt_fails 1048576 (length (bytes_next d p)) le)
    ∙ ap (λ (x : Bool). cond x (closed d) (joining d.format (Some (unit_next u p)) (bytes_next d p))) e

pub end_outcomes : (d : Joining) (u : OpenUnit) (p : Packet) → length (bytes_next d p) ≤ 1048576 → has_end p.payload ≡ true → on_outcomes d u p ≡ Whole u.first p.number u.pts (bytes_next d p) ∷ []
end_outcomes d u p le e = fits_outcomes d u p true le e

pub end_next : (d : Joining) (u : OpenUnit) (p : Packet) → length (bytes_next d p) ≤ 1048576 → has_end p.payload ≡ true → on_next d u p ≡ closed d
end_next d u p le e = fits_next d u p true le e

pub more_outcomes : (d : Joining) (u : OpenUnit) (p : Packet) → length (bytes_next d p) ≤ 1048576 → has_end p.payload ≡ false → on_outcomes d u p ≡ []
more_outcomes d u p le e = fits_outcomes d u p false le e

pub more_next : (d : Joining) (u : OpenUnit) (p : Packet) → length (bytes_next d p) ≤ 1048576 → has_end p.payload ≡ false → on_next d u p ≡ joining d.format (Some (unit_next u p)) (bytes_next d p)
more_next d u p le e = fits_next d u p false le e
