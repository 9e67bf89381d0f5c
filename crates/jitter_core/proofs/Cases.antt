-- The cases of a choice and of a turn, and of packets that are put aside.
use Rattle.std.proofs.Common.{ℕ, ◌≡◌, ◌+◌, ◌-◌, ◌≤◌, Bool, true, false, ◌&&◌, not, refl, List, [], ◌∷◌, length, Option, arith}
use Rattle.std.specs.Prelude.{is_some, if◌then◌else◌}
use Rattle.jitter_model.specs.declared.Arrival.{Arrival}
use Rattle.jitter_model.specs.declared.Settings.{Settings}
use Rattle.jitter_model.specs.declared.Turn.{Turn}
use Rattle.jitter_model.specs.declared.Turn.TheVariants.{End, Idle, Flushing}
use Rattle.jitter_model.specs.Accepted.{follows, joined}
use Rattle.jitter_model.specs.Requests.{lesser}
use Rattle.jitter_model.specs.Turns.{Sight, low, asked, may_give, is_lost, loss_end, is_done, output_wake, request_wake_from, packet_turn, request_turn, lost_turn, turn_by}
use Rattle.jitter_model.specs.Laws.{IsRun, IsAsideRun}

-- both branches
pub split : {A : Type 0} (P : A → Type 0) (b : Bool) (x y : A) → (b ≡ true → P x) → (b ≡ false → P y) → P (if b then x else y)
split P true x y f g = f refl
split P false x y f g = g refl

-- the cases of a turn, each with the tests before it
pub by_turn : (P : Turn → Type 0) (s : Settings) (v : Sight) (o : Option ℕ)
    → (v.flushing ≡ true → P Flushing)
    → (v.flushing ≡ false → is_some (asked s v o) ≡ true → P (request_turn (asked s v o)))
    → (v.flushing ≡ false → is_some (asked s v o) ≡ false → may_give v o ≡ true → P (packet_turn (low v o) (v.held (low v o))))
    → (v.flushing ≡ false → is_some (asked s v o) ≡ false → may_give v o ≡ false → is_lost v o ≡ true → P (lost_turn v.marks (low v o) (loss_end v (low v o))))
    → (v.flushing ≡ false → is_some (asked s v o) ≡ false → may_give v o ≡ false → is_lost v o ≡ false → (v.ended && is_done v o && not v.told) ≡ true → P End)
    → (v.flushing ≡ false → is_some (asked s v o) ≡ false → may_give v o ≡ false → is_lost v o ≡ false → (v.ended && is_done v o && not v.told) ≡ false → P (Idle (lesser (output_wake v o) (request_wake_from s v (low v o) (v.top + 2 - low v o)))))
    → P (turn_by s v o)
by_turn P s v o flushes asks gives loses ends idles =
    split P v.flushing _ _ flushes
    (λ f. split P (is_some (asked s v o)) _ _ (asks f)
    (λ a. split P (may_give v o) _ _ (gives f a)
    (λ g. split P (is_lost v o) _ _ (loses f a g)
    (λ l. split P (v.ended && is_done v o && not v.told) _ _ (ends f a g l) (idles f a g l)))))

-- ---- packets that are put aside

empty_run : IsAsideRun []
empty_run = record { fact = tt; few = omega arith }

pub run_or_none : (b : Bool) (run : List Arrival) → IsAsideRun run → IsAsideRun (if b then [] else run)
run_or_none true run r = empty_run
run_or_none false run r = r

pub run_rest : (a : Arrival) (run : List Arrival) → IsRun (a ∷ run) → IsRun run
run_rest a [] r = tt
run_rest a (b ∷ run) r = r.3

-- the fifth packet of a run joins the four before it
pub joined_five : (run : List Arrival) (a : Arrival) → 5 ≤ length (joined run a) → follows run a ≡ true
joined_five run a h =
    elim (follows run a) as (λ b. (follows run a ≡ b) → 5 ≤ length (if b then a ∷ run else a ∷ []) → follows run a ≡ true) [
      | true ↦ λ e _. e
      | false ↦ λ e long. absurd (omega arith)
    ] refl h

pub joined_follows : (run : List Arrival) (a : Arrival) → follows run a ≡ true → joined run a ≡ a ∷ run
joined_follows run a e = rw e refl
