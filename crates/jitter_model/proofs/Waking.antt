-- The wake of an idle turn.
use Rattle.std.proofs.Common.{ℕ, zero, suc, ◌≡◌, ◌+◌, ◌-◌, ◌≤◌, ◌<◌, Bool, true, false, ◌&&◌, refl, Option, None, Some, arith}
use Rattle.std.specs.Prelude.{nat_lt, nat_le, if◌then◌else◌}
use Rattle.std.proofs.lemmas.Grind.{common_steps}
use Rattle.jitter_model.specs.declared.Settings.{Settings}
use Rattle.jitter_model.specs.declared.Held.{Held}
use Rattle.jitter_model.specs.declared.Turn.{Turn}
use Rattle.jitter_model.specs.History.{History, now}
use Rattle.jitter_model.specs.Covered.{next}
use Rattle.jitter_model.specs.Requests.{lesser, Wanted, due, Asked}
use Rattle.jitter_model.specs.Turns.{Sight, low, deadline, wanted, first_undue, asked, may_start, may_give, is_lost, output_wake, wake_of_wanted, request_wake, request_wake_from, packet_turn, request_turn, turn_by, sight, turn, wake_of}
use Rattle.jitter_model.specs.Laws.{IsLater}
use Rattle.jitter_model.proofs.Chain.{split, by_turn, least_from_above, least_from_passes}

-- there is no such time, or it is later
pub record Later (time : ℕ) (o : Option ℕ) : Type 0 where
  pub fact : IsLater time o

pub lesser_later : (time : ℕ) (x y : Option ℕ) → Later time x → Later time y → Later time (lesser x y)
lesser_later time None y hx hy = hy
lesser_later time (Some x) None hx hy = hx
lesser_later time (Some x) (Some y) hx hy = let a : time < x = hx.fact in let b : time < y = hy.fact in record { fact = omega arith }

-- the first request that isn't due yet lies after the time, unless it is past the last one
pub undue_later : (s : Settings) (v : Sight) (first served : ℕ) → nat_le (first_undue s v first served) s.rtx_max ≡ true → v.time < due s first (first_undue s v first served)
undue_later s v first served e =
    let from : served ≤ first_undue s v first served = least_from_above (λ k. nat_lt v.time (due s first k)) served (s.rtx_max + 1 - served) in
    let small : first_undue s v first served ≤ s.rtx_max = grind (arith, common_steps) in
    let passes : nat_lt v.time (due s first (first_undue s v first served)) ≡ true = least_from_passes (λ k. nat_lt v.time (due s first k)) served (s.rtx_max + 1 - served) (omega arith) in
    grind (arith, common_steps)

pub and-left : (a b : Bool) → (a && b) ≡ true → a ≡ true
and-left true b e = refl
and-left false b e = e

wanted_later : (s : Settings) (v : Sight) (served : ℕ) (o : Option Wanted) → Later v.time (wake_of_wanted s v served o)
wanted_later s v served None = record { fact = tt }
wanted_later s v served (Some w) =
    split (Later v.time) (nat_le (first_undue s v w.first served) s.rtx_max && nat_lt (due s w.first (first_undue s v w.first served)) w.limit) _ _
    (λ e. record { fact = undue_later s v w.first served (and-left _ _ e) })
    (λ e. record { fact = tt })

pub requests_later : (s : Settings) (v : Sight) (n count : ℕ) → Later v.time (request_wake_from s v n count)
requests_later s v n zero = record { fact = tt }
requests_later s v n (suc count) = lesser_later v.time (request_wake s v n) (request_wake_from s v (n + 1) count) (wanted_later s v (v.served n) (wanted s v n)) (requests_later s v (n + 1) count)

start_later : (v : Sight) (o : Option ℕ) → may_start v o ≡ false → Later v.time o
start_later v None e = record { fact = tt }
start_later v (Some t) e = record { fact = grind (arith, common_steps) }

deadline_later : (v : Sight) (n : ℕ) → is_lost v (Some n) ≡ false → Later v.time (output_wake v (Some n))
deadline_later v n =
    elim (nat_lt n v.top) as (λ b. (b && nat_le (deadline v n) v.time) ≡ false → Later v.time (if b then Some (deadline v n) else None)) [
      | true ↦ λ e. record { fact = grind (arith, common_steps) }
      | false ↦ λ e. record { fact = tt }
    ]

output_later : (v : Sight) (o : Option ℕ) → may_give v o ≡ false → is_lost v o ≡ false → Later v.time (output_wake v o)
output_later v None g l = start_later v v.start g
output_later v (Some n) g l = deadline_later v n l

pub record WakesLater (time : ℕ) (r : Turn) : Type 0 where
  pub fact : IsLater time (wake_of r)

packet_wakes : (time n : ℕ) (o : Option Held) → WakesLater time (packet_turn n o)
packet_wakes time n None = record { fact = tt }
packet_wakes time n (Some p) = record { fact = tt }

request_wakes : (time : ℕ) (o : Option Asked) → WakesLater time (request_turn o)
request_wakes time None = record { fact = tt }
request_wakes time (Some r) = record { fact = tt }

pub turn_wakes : (s : Settings) (v : Sight) (o : Option ℕ) → WakesLater v.time (turn_by s v o)
turn_wakes s v o =
    by_turn (WakesLater v.time) s v o
    (λ _. record { fact = tt })
    (λ _ _. request_wakes v.time (asked s v o))
    (λ _ _ _. packet_wakes v.time (low v o) (v.held (low v o)))
    (λ _ _ _ _. record { fact = tt })
    (λ _ _ _ _ _. record { fact = tt })
    (λ _ _ g l _. record { fact = (lesser_later v.time (output_wake v o) (request_wake_from s v (low v o) (v.top + 2 - low v o)) (output_later v o g l) (requests_later s v (low v o) (v.top + 2 - low v o))).fact })

pub wake_later : (s : Settings) (h : History) → IsLater (now h) (wake_of (turn s h))
wake_later s h = (turn_wakes s (sight s h) (next h)).fact
