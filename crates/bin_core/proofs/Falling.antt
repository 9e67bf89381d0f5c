-- How often something can still be served, and what is due up to a limit.
use Rattle.std.proofs.Common.{ℕ, zero, suc, ◌≡◌, ◌≢◌, ◌+◌, ◌<◌, ◌≤◌, Bool, refl, sym, ap, subst, ◌∙◌, Option, None, Some, arith}
use Rattle.std.specs.Prelude.{◌==◌, nat_le, if◌then◌else◌}
use Rattle.std.proofs.lemmas.Grind.{common_steps}
use Rattle.jitter_model.specs.Laws.{IsLater}
use Rattle.replay_model.specs.declared.Due.{Due}
use Rattle.replay_model.specs.Serving.{due_time, up_to, room, rooms}
use Rattle.bin_core.proofs.Cases.{by_cases}

-- ---- the room falls where one lane's wake comes to be later

pub rooms_same : (limit : ℕ) (old new : ℕ → Option ℕ) (count l : ℕ) → count ≤ l → ((k : ℕ) → k ≢ l → new k ≡ old k) → rooms limit new count ≡ rooms limit old count
rooms_same limit old new zero l le same = refl
rooms_same limit old new (suc k) l le same =
    ap (λ (n : ℕ). n + room limit (new k)) (rooms_same limit old new k l (omega arith) same) ∙ ap (λ (o : Option ℕ). rooms limit old k + room limit o) (same k (omega arith))

pub room_falls : (limit t : ℕ) (o : Option ℕ) → t ≤ limit → IsLater t o → room limit o < room limit (Some t)
room_falls limit t None le h = omega arith
room_falls limit t (Some w) le h = omega arith

pub rooms_fall : (limit t : ℕ) (old new : ℕ → Option ℕ) (count l : ℕ) → l < count → t ≤ limit → old l ≡ Some t → IsLater t (new l) → ((k : ℕ) → k ≢ l → new k ≡ old k) → rooms limit new count < rooms limit old count
rooms_fall limit t old new zero l lt le is later same = absurd (omega arith)
rooms_fall limit t old new (suc k) l lt le is later same =
    by_cases (k == l)
    (λ e. let eq : k ≡ l = grind (arith, common_steps) in at_top eq)
    (λ e. let ne : k ≢ l = grind (arith, common_steps) in
    let f : rooms limit new k < rooms limit old k = rooms_fall limit t old new k l (omega arith) le is later same in
    let r : room limit (new k) ≡ room limit (old k) = ap (room limit) (same k ne) in
    omega arith)
  where
    at_top : k ≡ l → rooms limit new (suc k) < rooms limit old (suc k)
    at_top eq =
        let below : rooms limit new k ≡ rooms limit old k = rooms_same limit old new k l (omega (arith, eq)) same in
        let is_k : old k ≡ Some t = ap old eq ∙ is in
        let later_k : IsLater t (new k) = subst (λ (n : ℕ). IsLater t (new n)) (sym eq) later in
        let f : room limit (new k) < room limit (Some t) = room_falls limit t (new k) le later_k in
        let r : room limit (old k) ≡ room limit (Some t) = ap (room limit) is_k in
        omega arith

-- ---- what is due up to a limit

pub some_first : (limit : ℕ) (d : Due) (o : Option Due) → up_to limit o ≡ Some d → o ≡ Some d
some_first limit d None e = e
some_first limit d (Some v) e =
    by_cases (nat_le (due_time v) limit)
    (λ b. sym (ap (λ (x : Bool). if x then Some v else None) b) ∙ e)
    (λ b. absurd (differ d (sym (ap (λ (x : Bool). if x then Some v else None) b) ∙ e)))
  where
    differ : (d : Due) → None ≡ Some d → ⊥
    differ d e = cc
