-- The cases of a turn, and the searches in it.
use Rattle.std.proofs.Common.{ℕ, zero, suc, ◌≡◌, ◌+◌, ◌-◌, ◌≤◌, ◌<◌, Bool, true, false, ◌&&◌, not, refl, subst, List, [], ◌∷◌, Option, arith, sym}
use Rattle.std.specs.Prelude.{unwrap_or, is_some, ◌==◌, if◌then◌else◌}
use Rattle.std.proofs.lemmas.Grind.{common_steps}
use Rattle.jitter_model.specs.declared.Settings.{Settings}
use Rattle.jitter_model.specs.declared.Turn.{Turn}
use Rattle.jitter_model.specs.declared.Turn.TheVariants.{End, Idle, Flushing}
use Rattle.jitter_model.specs.Accepted.{Taken, top, least, has}
use Rattle.jitter_model.specs.Requests.{lesser}
use Rattle.jitter_model.specs.Turns.{Sight, least_from, low, asked, may_give, is_lost, loss_end, is_done, output_wake, request_wake_from, packet_turn, request_turn, lost_turn, turn_by}

-- both branches
pub split : {A : Type 0} (P : A → Type 0) (b : Bool) (x y : A) → (b ≡ true → P x) → (b ≡ false → P y) → P (if b then x else y)
split P true x y f g = f refl
split P false x y f g = g refl

-- the cases of a turn, each with the tests before it
pub by_turn : (P : Turn → Type 0) (s : Settings) (v : Sight) (o : Option ℕ)
    → (v.flushing ≡ true → P Flushing)
    → (v.flushing ≡ false → is_some (asked s v o) ≡ true → P (request_turn (asked s v o)))
    → (v.flushing ≡ false → is_some (asked s v o) ≡ false → may_give v o ≡ true → P (packet_turn (low v o) (v.held (low v o))))
    → (v.flushing ≡ false → is_some (asked s v o) ≡ false → may_give v o ≡ false → is_lost v o ≡ true → P (lost_turn v.marks (low v o) (loss_end v (low v o))))
    → (v.flushing ≡ false → is_some (asked s v o) ≡ false → may_give v o ≡ false → is_lost v o ≡ false → (v.ended && is_done v o && not v.told) ≡ true → P End)
    → (v.flushing ≡ false → is_some (asked s v o) ≡ false → may_give v o ≡ false → is_lost v o ≡ false → (v.ended && is_done v o && not v.told) ≡ false → P (Idle (lesser (output_wake v o) (request_wake_from s v (low v o) (v.top + 2 - low v o)))))
    → P (turn_by s v o)
by_turn P s v o flushes asks gives loses ends idles =
    split P v.flushing _ _ flushes
    (λ f. split P (is_some (asked s v o)) _ _ (asks f)
    (λ a. split P (may_give v o) _ _ (gives f a)
    (λ g. split P (is_lost v o) _ _ (loses f a g)
    (λ l. split P (v.ended && is_done v o && not v.told) _ _ (ends f a g l) (idles f a g l)))))

-- ---- the least number that passes

pub least_from_le : (passes : ℕ → Bool) (n count : ℕ) → least_from passes n count ≤ n + count
least_from_le passes n zero = omega arith
least_from_le passes n (suc count) =
    split (λ m. m ≤ n + suc count) (passes n) n (least_from passes (n + 1) count) (λ e. omega arith) (λ e. omega (arith, least_from_le passes (n + 1) count))

pub least_from_above : (passes : ℕ → Bool) (n count : ℕ) → n ≤ least_from passes n count
least_from_above passes n zero = omega arith
least_from_above passes n (suc count) =
    split (λ m. n ≤ m) (passes n) n (least_from passes (n + 1) count) (λ e. omega arith) (λ e. omega (arith, least_from_above passes (n + 1) count))

-- where the first number doesn't pass it is a later one
pub least_from_after : (passes : ℕ → Bool) (n count : ℕ) → passes n ≡ false → 0 < count → n < least_from passes n count
least_from_after passes n zero e h = absurd (omega arith)
least_from_after passes n (suc count) e h = rw e (omega (arith, least_from_above passes (n + 1) count))

-- it passes, unless it is the one after all
pub least_from_passes : (passes : ℕ → Bool) (n count : ℕ) → least_from passes n count < n + count → passes (least_from passes n count) ≡ true
least_from_passes passes n zero h = absurd (omega arith)
least_from_passes passes n (suc count) h =
    elim (passes n) as (λ b. (passes n ≡ b) → (if b then n else least_from passes (n + 1) count) < n + suc count → passes (if b then n else least_from passes (n + 1) count) ≡ true) [
      | true ↦ λ e _. e
      | false ↦ λ e less. least_from_passes passes (n + 1) count (omega arith)
    ] refl h

before_or_here : (passes : ℕ → Bool) (n m : ℕ) → n ≤ m → passes n ≡ false → (n + 1 ≤ m → passes m ≡ false) → passes m ≡ false
before_or_here passes n m le e rest =
    elim (n == m) as (λ b. (n == m) ≡ b → passes m ≡ false) [
      | true ↦ λ same. let here : n ≡ m = grind (arith, common_steps) in subst (λ q. passes q ≡ false) here e
      | false ↦ λ other. rest (grind (arith, common_steps))
    ] refl

-- those before it don't pass
pub least_from_before : (passes : ℕ → Bool) (n count m : ℕ) → n ≤ m → m < least_from passes n count → passes m ≡ false
least_from_before passes n zero m le h = absurd (omega arith)
least_from_before passes n (suc count) m le h =
    elim (passes n) as (λ b. (passes n ≡ b) → m < (if b then n else least_from passes (n + 1) count) → passes m ≡ false) [
      | true ↦ λ e less. absurd (omega arith)
      | false ↦ λ e less. before_or_here passes n m le e (λ more. least_from_before passes (n + 1) count m more less)
    ] refl h

-- it is the number that passes while none before it does
pub least_from_is : (passes : ℕ → Bool) (n count m : ℕ) → n ≤ m → m ≤ n + count → ((q : ℕ) → n ≤ q → q < m → passes q ≡ false) → (m < n + count → passes m ≡ true) → least_from passes n count ≡ m
least_from_is passes n zero m from to before here = omega arith
least_from_is passes n (suc count) m from to before here =
    elim (n == m) as (λ b. (n == m) ≡ b → least_from passes n (suc count) ≡ m) [
      | true ↦ λ same. let is : n ≡ m = grind (arith, common_steps) in
          let passing : passes n ≡ true = subst (λ q. passes q ≡ true) (sym is) (here (omega arith)) in
          rw passing is
      | false ↦ λ other. let more : n + 1 ≤ m = grind (arith, common_steps) in
          let failing : passes n ≡ false = before n (omega arith) (omega arith) in
          rw failing (least_from_is passes (n + 1) count m more (omega arith) (λ q a b. before q (omega arith) b) (λ less. here (omega arith)))
    ] refl

-- ---- the accepted numbers

pub has-le : (ps : List Taken) (n : ℕ) → has ps n ≡ true → n ≤ unwrap_or (top ps) 0
has-le [] n h = cc
has-le (p ∷ ps) n h = grind (arith, common_steps, has-le ps n)

pub least_le_top : (ps : List Taken) → unwrap_or (least ps) 0 ≤ unwrap_or (top ps) 0
least_le_top [] = omega arith
least_le_top (p ∷ ps) = omega arith
