-- The cases of a turn, and the searches in it.
use Rattle.std.proofs.Common.{ℕ, zero, suc, ◌≡◌, ◌+◌, ◌-◌, ◌≤◌, ◌<◌, Bool, true, false, ◌&&◌, not, refl, Option, None, Some, arith}
use Rattle.std.specs.Prelude.{is_some, nat_lt, if◌then◌else◌}
use Rattle.jitter_model.specs.declared.Settings.{Settings}
use Rattle.jitter_model.specs.declared.Turn.{Turn}
use Rattle.jitter_model.specs.declared.Turn.TheVariants.{End, Idle, Flushing}
use Rattle.jitter_model.specs.Requests.{Asked, lesser, earlier}
use Rattle.jitter_model.specs.Turns.{Sight, least_from, low, asked, may_give, is_lost, loss_end, is_done, output_wake, request_wake_from, packet_turn, request_turn, lost_turn, turn_by}

-- a case split that keeps the equation
pub by_cases : {P : Type 0} (b : Bool) → (b ≡ true → P) → (b ≡ false → P) → P
by_cases true f g = f refl
by_cases false f g = g refl

-- both branches
pub split : {A : Type 0} (P : A → Type 0) (b : Bool) (x y : A) → (b ≡ true → P x) → (b ≡ false → P y) → P (if b then x else y)
split P true x y f g = f refl
split P false x y f g = g refl

pub earlier_one : (P : Option Asked → Type 0) (x y : Option Asked) → P x → P y → P (earlier x y)
earlier_one P None y px py = py
earlier_one P (Some x) None px py = px
earlier_one P (Some x) (Some y) px py = split P (nat_lt y.time x.time) (Some y) (Some x) (λ _. py) (λ _. px)

-- the cases of a turn, each with the tests before it
pub by_turn : (P : Turn → Type 0) (s : Settings) (v : Sight) (o : Option ℕ)
    → (v.flushing ≡ true → P Flushing)
    → (v.flushing ≡ false → is_some (asked s v o) ≡ true → P (request_turn (asked s v o)))
    → (v.flushing ≡ false → is_some (asked s v o) ≡ false → may_give v o ≡ true → P (packet_turn (low v o) (v.held (low v o))))
    → (v.flushing ≡ false → is_some (asked s v o) ≡ false → may_give v o ≡ false → is_lost v o ≡ true → P (lost_turn v.marks (low v o) (loss_end v (low v o))))
    → (v.flushing ≡ false → is_some (asked s v o) ≡ false → may_give v o ≡ false → is_lost v o ≡ false → (v.ended && is_done v o && not v.told) ≡ true → P End)
    → (v.flushing ≡ false → is_some (asked s v o) ≡ false → may_give v o ≡ false → is_lost v o ≡ false → (v.ended && is_done v o && not v.told) ≡ false → P (Idle (lesser (output_wake v o) (request_wake_from s v (low v o) (v.top + 2 - low v o)))))
    → P (turn_by s v o)
by_turn P s v o flushes asks gives loses ends idles =
    split P v.flushing _ _ flushes
    (λ f. split P (is_some (asked s v o)) _ _ (asks f)
    (λ a. split P (may_give v o) _ _ (gives f a)
    (λ g. split P (is_lost v o) _ _ (loses f a g)
    (λ l. split P (v.ended && is_done v o && not v.told) _ _ (ends f a g l) (idles f a g l)))))

-- ---- the least number that passes

pub least_from_le : (passes : ℕ → Bool) (n count : ℕ) → least_from passes n count ≤ n + count
least_from_le passes n zero = omega arith
least_from_le passes n (suc count) =
    split (λ m. m ≤ n + suc count) (passes n) n (least_from passes (n + 1) count) (λ e. omega arith) (λ e. omega (arith, least_from_le passes (n + 1) count))

least_from_above : (passes : ℕ → Bool) (n count : ℕ) → n ≤ least_from passes n count
least_from_above passes n zero = omega arith
least_from_above passes n (suc count) =
    split (λ m. n ≤ m) (passes n) n (least_from passes (n + 1) count) (λ e. omega arith) (λ e. omega (arith, least_from_above passes (n + 1) count))

-- where the first number doesn't pass it is a later one
pub least_from_after : (passes : ℕ → Bool) (n count : ℕ) → passes n ≡ false → 0 < count → n < least_from passes n count
least_from_after passes n zero e h = absurd (omega arith)
least_from_after passes n (suc count) e h = rw e (omega (arith, least_from_above passes (n + 1) count))

-- it passes, unless it is the one after all
pub least_from_passes : (passes : ℕ → Bool) (n count : ℕ) → least_from passes n count < n + count → passes (least_from passes n count) ≡ true
least_from_passes passes n zero h = absurd (omega arith)
least_from_passes passes n (suc count) h =
    elim (passes n) as (λ b. (passes n ≡ b) → (if b then n else least_from passes (n + 1) count) < n + suc count → passes (if b then n else least_from passes (n + 1) count) ≡ true) [
      | true ↦ λ e _. e
      | false ↦ λ e less. least_from_passes passes (n + 1) count (omega arith)
    ] refl h
