-- Counts and flags of pushers, and pushers that ended.
use Rattle.std.proofs.Common.{ℕ, ◌≡◌, ◌≢◌, ◌+◌, ◌<◌, ◌≤◌, ◌==◌, ◌⊎◌, inl, inr, Bool, true, false, ◌||◌, refl, sym, ap, subst, ◌∙◌, List, [], ◌∷◌, length, is_some, arith, if◌then◌else◌}
use Rattle.std.specs.Prelude.{⊤, ◌/◌, ◌%◌, ◌^◌, nat_lt, slice_index_or, slice_set}
use Rattle.std.proofs.lemmas.Grind.{common_steps}
use Rattle.std.proofs.lemmas.List.{get_or-set_same, get_or-set_other, length-set}
use Rattle.std.proofs.Math.Nat.{pow-le-pow_right, div-eq_of_lt}
use Rattle.jitter_model.specs.History.{has_ended, is_pusher}
use Rattle.live_bin.specs.declared.plan.PlanLane.{PlanLane}
use Rattle.live_bin.specs.declared.entry.Entry.{Entry}
use Rattle.live_bin.specs.declared.entry.Entry.TheVariants.{Push, Report, Clock, FlushStart, FlushStop, Latency, Ends, Packet, Lost, Request, End}
use Rattle.live_bin.specs.Plans.{delivery, event}
use Rattle.live_bin.specs.Journals.{past, given, controls, has_left, InOrder}

abbrev IsYes : Bool → Type 0
IsYes true = ⊤
IsYes false = ⊥

pub clash : {A : Type 0} → true ≡ false → A
clash e = absurd (subst IsYes e tt)

-- ---- counts and flags

pub set_given : (xs : List ℕ) (q r : ℕ) → q < length xs
    → slice_index_or (slice_set xs q (slice_index_or xs q 0 + 1)) r 0 ≡ (if q == r then slice_index_or xs r 0 + 1 else slice_index_or xs r 0)
set_given xs q r lt =
    elim (q == r) as (λ b. (q == r) ≡ b → slice_index_or (slice_set xs q (slice_index_or xs q 0 + 1)) r 0 ≡ (if b then slice_index_or xs r 0 + 1 else slice_index_or xs r 0)) [
      | true ↦ λ e. let is : q ≡ r = grind (arith, common_steps) in subst (λ (k : ℕ). slice_index_or (slice_set xs q (slice_index_or xs q 0 + 1)) k 0 ≡ slice_index_or xs k 0 + 1) is (get_or-set_same xs q (slice_index_or xs q 0 + 1) 0 lt)
      | false ↦ λ e. let other : r ≢ q = grind (arith, common_steps) in rw get_or-set_other refl
    ] refl

pub set_ended : (xs : List Bool) (p q : ℕ) → p < length xs → slice_index_or (slice_set xs p true) q false ≡ (q == p || slice_index_or xs q false)
set_ended xs p q lt =
    elim (q == p) as (λ b. (q == p) ≡ b → slice_index_or (slice_set xs p true) q false ≡ (b || slice_index_or xs q false)) [
      | true ↦ λ e. let is : q ≡ p = grind (arith, common_steps) in subst (λ (k : ℕ). slice_index_or (slice_set xs p true) k false ≡ true) (sym is) (get_or-set_same xs p true false lt)
      | false ↦ λ e. let other : q ≢ p = grind (arith, common_steps) in rw get_or-set_other refl
    ] refl

pub length_set : {A : Type 0} (xs : List A) (p : ℕ) (x : A) → length (slice_set xs p x) ≡ length xs
length_set xs p x = simp length-set

-- ---- a set of nine bits

no_bit : (pushers p : ℕ) → pushers < 512 → 9 ≤ p → is_pusher pushers p ≡ true → ⊥
no_bit pushers p few le is =
    let great : 512 ≤ 2 ^ p = pow-le-pow_right {n = 2} (omega arith) le in
    let none : pushers / 2 ^ p ≡ 0 = div-eq_of_lt (omega arith) in
    let bad : (0 % 2 == 1) ≡ true = rw none at is in
    cc

pub pusher_small : (pushers p : ℕ) → pushers < 512 → is_pusher pushers p ≡ true → p < 9
pusher_small pushers p few is =
    elim (nat_lt p 9) as (λ b. nat_lt p 9 ≡ b → p < 9) [
      | true ↦ λ e. grind (arith, common_steps)
      | false ↦ λ e. absurd (no_bit pushers p few (let le : 9 ≤ p = grind (arith, common_steps) in le) is)
    ] refl

-- ---- pushers that ended

-- one more delivery of r, which goes on, takes nothing from a pusher that ended
ended_given : (l : PlanLane) (q r : ℕ) (es : List Entry) (b : Bool) → (r == q) ≡ b → has_ended (past l es) r ≡ false → has_ended (past l es) q ≡ true
    → has_left l es q ≡ false
    → (if q == 8 then is_some (event l (controls es)) else is_some (delivery l q (if b then given q es + 1 else given q es))) ≡ false
ended_given l q r es true is goes e left = let same : r ≡ q = grind (arith, common_steps) in clash (sym e ∙ (ap (has_ended (past l es)) (sym same) ∙ goes))
ended_given l q r es false is goes e left = left

ended_end : (l : PlanLane) (q r : ℕ) (es : List Entry) (b : Bool) → (q == r) ≡ b → has_left l es r ≡ false → (b || has_ended (past l es) q) ≡ true
    → (has_ended (past l es) q ≡ true → has_left l es q ≡ false) → has_left l es q ≡ false
ended_end l q r es true is none e next = let same : r ≡ q = grind (arith, common_steps) in subst (λ (x : ℕ). has_left l es x ≡ false) same none
ended_end l q r es false is none e next = next e

-- one more event of control, which goes on
ended_control : (l : PlanLane) (q n : ℕ) (es : List Entry) (b : Bool) → (q == 8) ≡ b → has_ended (past l es) 8 ≡ false → has_ended (past l es) q ≡ true
    → (if b then is_some (event l (controls es)) else is_some (delivery l q (given q es))) ≡ false
    → (if b then is_some (event l n) else is_some (delivery l q (given q es))) ≡ false
ended_control l q n es true is goes e left = let same : q ≡ 8 = grind (arith, common_steps) in clash (sym e ∙ (ap (has_ended (past l es)) same ∙ goes))
ended_control l q n es false is goes e left = left

ended_clocked : (l : PlanLane) (q by t : ℕ) (es : List Entry) {A B : Type 0} → ((by ≡ 8) × A) ⊎ ((by ≡ 9) × B) → (A → has_ended (past l es) 8 ≡ false)
    → has_ended (past l es) q ≡ true → has_left l es q ≡ false → has_left l (Clock by t ∷ es) q ≡ false
ended_clocked l q by t es (inl (is, c)) goes e left = ended_control l q _ es (q == 8) refl (goes c) e left
ended_clocked l q by t es (inr (is, c)) goes e left = rw is left

-- a pusher that ended has nothing left
pub ended_none : (l : PlanLane) (q : ℕ) (es : List Entry) → InOrder l es → has_ended (past l es) q ≡ true → has_left l es q ≡ false
ended_none l q [] f e = clash (sym e)
ended_none l q (Push r k stamp seq kind v n dropped ∷ es) (n', f) e = ended_given l q r es (r == q) refl n'.goes_on e (ended_none l q es f e)
ended_none l q (Report r k ntp_ns rtp local ∷ es) (n', f) e = ended_given l q r es (r == q) refl n'.goes_on e (ended_none l q es f e)
ended_none l q (Clock by t ∷ es) (n', f) e = ended_clocked l q by t es n' (λ c. c.goes_on) e (ended_none l q es f e)
ended_none l q (FlushStart count ∷ es) (n', f) e = ended_control l q _ es (q == 8) refl n'.goes_on e (ended_none l q es f e)
ended_none l q (FlushStop ∷ es) (n', f) e = ended_control l q _ es (q == 8) refl n'.goes_on e (ended_none l q es f e)
ended_none l q (Latency ns ∷ es) (n', f) e = ended_control l q _ es (q == 8) refl n'.goes_on e (ended_none l q es f e)
ended_none l q (Ends r ∷ es) (n', f) e = ended_end l q r es (q == r) refl n'.nothing e (ended_none l q es f)
ended_none l q (Packet n pts p ∷ es) (n', f) e = ended_none l q es f e
ended_none l q (Lost n count pts duration ∷ es) (n', f) e = ended_none l q es f e
ended_none l q (Request n k ∷ es) (n', f) e = ended_none l q es f e
ended_none l q (End ∷ es) (n', f) e = ended_none l q es f e

not_ended : (b : Bool) → (b ≡ true → true ≡ false) → b ≡ false
not_ended true f = f refl
not_ended false f = refl

-- a pusher with something left hasn't ended
pub goes_on : (l : PlanLane) (q : ℕ) (es : List Entry) → InOrder l es → has_left l es q ≡ true → has_ended (past l es) q ≡ false
goes_on l q es f left = not_ended (has_ended (past l es) q) (λ e. sym left ∙ ended_none l q es f e)
