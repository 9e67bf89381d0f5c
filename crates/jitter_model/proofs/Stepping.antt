-- A turn after the clock stepped to an idle turn's wake isn't idle.
use Rattle.std.proofs.Common.{ℕ, zero, suc, ◌≡◌, ◌+◌, ◌-◌, ◌*◌, ◌≤◌, ◌<◌, Bool, true, false, ◌&&◌, refl, sym, ap, subst, ◌∷◌, Option, None, Some, arith, max, min}
use Rattle.std.specs.Prelude.{is_some, nat_lt, nat_le, if◌then◌else◌, ◌⊎◌}
use Rattle.std.proofs.Math.Nat.{mul-le-mul_right}
use Rattle.std.proofs.Common.{inl, inr}
use Rattle.std.proofs.lemmas.Grind.{common_steps}
use Rattle.jitter_model.specs.declared.Settings.{Settings}
use Rattle.jitter_model.specs.declared.Held.{Held}
use Rattle.jitter_model.specs.declared.Turn.{Turn}
use Rattle.jitter_model.specs.declared.Turn.TheVariants.{Idle}
use Rattle.jitter_model.specs.declared.Entry.TheVariants.{Clock}
use Rattle.jitter_model.specs.History.{History, now, is_flushing}
use Rattle.jitter_model.specs.Covered.{next}
use Rattle.jitter_model.specs.Requests.{lesser, Wanted, due, Asked, earlier}
use Rattle.jitter_model.specs.Turns.{Sight, low, deadline, wanted, first_undue, is_asked, asked_for, asked_from, asked, may_start, may_give, is_lost, output_wake, wake_of_wanted, request_wake, request_wake_from, packet_turn, request_turn, turn_by, sight, turn, is_quiet, wake_of}
use Rattle.jitter_model.specs.Runs.{Run}
use Rattle.jitter_model.proofs.Chain.{split, by_turn, least_from_above}
use Rattle.jitter_model.specs.Laws.{IsLater}
use Rattle.jitter_model.proofs.Waking.{and-left, wake_later}
use Rattle.jitter_model.proofs.Judged.{and-right}
use Rattle.jitter_model.proofs.Giving.{held_low_at}

-- the same sight at another time
abbrev at : ℕ → Sight → Sight
at t v = record v { time = t }

-- the lesser of two times is one of them
lesser_is : (x y : Option ℕ) (w : ℕ) → lesser x y ≡ Some w → (x ≡ Some w) ⊎ (y ≡ Some w)
lesser_is None y w e = inr e
lesser_is (Some x) None w e = inl e
lesser_is (Some x) (Some y) w e =
    elim (nat_le x y) as (λ b. nat_le x y ≡ b → (Some x ≡ Some w) ⊎ (Some y ≡ Some w)) [
      | true ↦ λ le. inl (ap Some (let small : x ≤ y = grind (arith, common_steps) in let is : min x y ≡ w = cc in omega arith))
      | false ↦ λ le. inr (ap Some (let small : y < x = grind (arith, common_steps) in let is : min x y ≡ w = cc in omega arith))
    ] refl

-- ---- a request that is due at its wake

earlier_some : (x y : Option Asked) → (is_some x ≡ true) ⊎ (is_some y ≡ true) → is_some (earlier x y) ≡ true
earlier_some None y h = elim h [ inl e ↦ cc | inr e ↦ e ]
earlier_some (Some x) None h = refl
earlier_some (Some x) (Some y) h = split (λ (o : Option Asked). is_some o ≡ true) (nat_lt y.time x.time) (Some y) (Some x) (λ _. refl) (λ _. refl)

due_from : (s : Settings) (first j k : ℕ) → j ≤ k → due s first j ≤ due s first k
due_from s first j k le = let more : j * s.rtx_retry ≤ k * s.rtx_retry = mul-le-mul_right s.rtx_retry le in omega arith

three_and : (a b c : Bool) → a ≡ true → b ≡ true → c ≡ true → (a && b && c) ≡ true
three_and a b c x y z = rw (x, y, z) refl

le_true : (x y : ℕ) → x ≤ y → nat_le x y ≡ true
le_true x y h = grind (arith, common_steps)

lt_true : (x y : ℕ) → x < y → nat_lt x y ≡ true
lt_true x y h = grind (arith, common_steps)

-- at the wake of a number's request that request is due
asked_then : (s : Settings) (v : Sight) (served w first limit : ℕ) → wake_of_wanted s v served (Some (record { first = first; limit = limit })) ≡ Some w → is_asked s (at w v) (record { first = first; limit = limit }) served ≡ true
asked_then s v served w first limit e =
    elim (nat_le (first_undue s v first served) s.rtx_max && nat_lt (due s first (first_undue s v first served)) limit) as
    (λ b. (nat_le (first_undue s v first served) s.rtx_max && nat_lt (due s first (first_undue s v first served)) limit) ≡ b → (if b then Some (due s first (first_undue s v first served)) else None) ≡ Some w → is_asked s (at w v) (record { first = first; limit = limit }) served ≡ true) [
      | true ↦ λ both is.
          let small : nat_le (first_undue s v first served) s.rtx_max ≡ true = and-left _ _ both in
          let early : nat_lt (due s first (first_undue s v first served)) limit ≡ true = and-right (nat_le (first_undue s v first served) s.rtx_max) (nat_lt (due s first (first_undue s v first served)) limit) both in
          let here : due s first (first_undue s v first served) ≡ w = cc in
          let from : served ≤ first_undue s v first served = least_from_above (λ k. nat_lt v.time (due s first k)) served (s.rtx_max + 1 - served) in
          let most : first_undue s v first served ≤ s.rtx_max = grind (arith, common_steps) in
          let before : due s first (first_undue s v first served) < limit = grind (arith, common_steps) in
          let first_one : due s first served ≤ due s first (first_undue s v first served) = due_from s first served (first_undue s v first served) from in
          three_and (nat_le served s.rtx_max) (nat_le (due s first served) w) (nat_lt w limit)
          (le_true served s.rtx_max (omega arith)) (le_true (due s first served) w (omega arith)) (lt_true w limit (omega arith))
      | false ↦ λ both is. cc
    ] refl e

asked_some : (s : Settings) (v : Sight) (n w : ℕ) (o : Option Wanted) → wake_of_wanted s v (v.served n) o ≡ Some w → is_some (asked_for s (at w v) n o) ≡ true
asked_some s v n w None e = cc
asked_some s v n w (Some x) e = rw (asked_then s v (v.served n) w x.first x.limit e) refl

asked_from_some : (s : Settings) (v : Sight) (w n count : ℕ) → request_wake_from s v n count ≡ Some w → is_some (asked_from s (at w v) n count) ≡ true
asked_from_some s v w n zero e = cc
asked_from_some s v w n (suc count) e =
    earlier_some (asked_for s (at w v) n (wanted s v n)) (asked_from s (at w v) (n + 1) count)
    (elim (lesser_is (request_wake s v n) (request_wake_from s v (n + 1) count) w e) [
      | inl here ↦ inl (asked_some s v n w (wanted s v n) here)
      | inr there ↦ inr (asked_from_some s v w (n + 1) count there)
    ])

-- ---- a packet or a loss that is due at its wake

start_then : (v : Sight) (o : Option ℕ) (w : ℕ) → o ≡ Some w → may_start (at w v) o ≡ true
start_then v None w e = cc
start_then v (Some t) w e = let same : t ≡ w = cc in grind (arith, common_steps)

lost_then : (v : Sight) (n w : ℕ) → output_wake v (Some n) ≡ Some w → is_lost (at w v) (Some n) ≡ true
lost_then v n w e =
    elim (nat_lt n v.top) as (λ b. (if b then Some (deadline v n) else None) ≡ Some w → (b && nat_le (deadline v n) w) ≡ true) [
      | true ↦ λ is. let same : deadline v n ≡ w = cc in le_true (deadline v n) w (omega arith)
      | false ↦ λ is. cc
    ] e

output_then : (v : Sight) (o : Option ℕ) (w : ℕ) → output_wake v o ≡ Some w → (may_give (at w v) o ≡ true) ⊎ (is_lost (at w v) o ≡ true)
output_then v None w e = inl (start_then v v.start w e)
output_then v (Some n) w e = inr (lost_then v n w e)

-- ---- the turn then

pub record NotQuiet (r : Turn) : Type 0 where
  pub fact : is_quiet r ≡ false

packet_moves : (n : ℕ) (p : Option Held) → is_some p ≡ true → NotQuiet (packet_turn n p)
packet_moves n None e = cc
packet_moves n (Some p) e = record { fact = refl }

request_moves : (a : Option Asked) → is_some a ≡ true → NotQuiet (request_turn a)
request_moves None e = cc
request_moves (Some a) e = record { fact = refl }

no_both : (b : Bool) → b ≡ true → b ≡ false → ⊥
no_both b e f = cc

nothing_due : (s : Settings) (v : Sight) (o : Option ℕ) (w : ℕ) → lesser (output_wake v o) (request_wake_from s v (low v o) (v.top + 2 - low v o)) ≡ Some w → is_some (asked_from s (at w v) (low v o) (v.top + 2 - low v o)) ≡ false → may_give (at w v) o ≡ false → is_lost (at w v) o ≡ false → ⊥
nothing_due s v o w e a g l =
    elim (lesser_is (output_wake v o) (request_wake_from s v (low v o) (v.top + 2 - low v o)) w e) [
      | inl out ↦ elim (output_then v o w out) [
        | inl gives ↦ no_both (may_give (at w v) o) gives g
        | inr loses ↦ no_both (is_lost (at w v) o) loses l
      ]
      | inr asks ↦ no_both (is_some (asked_from s (at w v) (low v o) (v.top + 2 - low v o))) (asked_from_some s v w (low v o) (v.top + 2 - low v o) asks) a
    ]

moves_then : (s : Settings) (v : Sight) (o : Option ℕ) (w : ℕ) → v.flushing ≡ false → (may_give (at w v) o ≡ true → is_some (v.held (low v o)) ≡ true) → lesser (output_wake v o) (request_wake_from s v (low v o) (v.top + 2 - low v o)) ≡ Some w → NotQuiet (turn_by s (at w v) o)
moves_then s v o w open_now holds e =
    by_turn NotQuiet s (at w v) o
    (λ f. absurd (no_both v.flushing f open_now))
    (λ _ a. request_moves (asked s (at w v) o) a)
    (λ _ _ g. packet_moves (low (at w v) o) (v.held (low (at w v) o)) (holds g))
    (λ _ _ _ _. record { fact = refl })
    (λ _ _ _ _ _. record { fact = refl })
    (λ _ a g l _. absurd (nothing_due s v o w e a g l))

-- ---- the idle turn before

pub record IdlesFor (s : Settings) (v : Sight) (o : Option ℕ) (r : Turn) : Type 0 where
  pub fact : (w : ℕ) → r ≡ Idle (Some w) → (v.flushing ≡ false) × (lesser (output_wake v o) (request_wake_from s v (low v o) (v.top + 2 - low v o)) ≡ Some w)

packet_idles : (s : Settings) (v : Sight) (o : Option ℕ) (n : ℕ) (p : Option Held) → IdlesFor s v o (packet_turn n p)
packet_idles s v o n None = record { fact = λ w e. cc }
packet_idles s v o n (Some p) = record { fact = λ w e. cc }

request_idles : (s : Settings) (v : Sight) (o : Option ℕ) (a : Option Asked) → IdlesFor s v o (request_turn a)
request_idles s v o None = record { fact = λ w e. cc }
request_idles s v o (Some a) = record { fact = λ w e. cc }

turn_idles : (s : Settings) (v : Sight) (o : Option ℕ) → IdlesFor s v o (turn_by s v o)
turn_idles s v o =
    by_turn (IdlesFor s v o) s v o
    (λ _. record { fact = λ w e. cc })
    (λ _ _. request_idles s v o (asked s v o))
    (λ _ _ _. packet_idles s v o (low v o) (v.held (low v o)))
    (λ _ _ _ _. record { fact = λ w e. cc })
    (λ _ _ _ _ _. record { fact = λ w e. cc })
    (λ f _ _ _ _. record { fact = λ w e. (f, cc) })

at_least : (t w : ℕ) → t < w → max w t ≡ w
at_least t w h = omega arith

pub moves : (s : Settings) (h : History) (w : ℕ) → Run s h → turn s h ≡ Idle (Some w) → is_quiet (turn s (Clock w ∷ h)) ≡ false
moves s h w r e =
    let x : (is_flushing h ≡ false) × (lesser (output_wake (sight s h) (next h)) (request_wake_from s (sight s h) (low (sight s h) (next h)) ((sight s h).top + 2 - low (sight s h) (next h))) ≡ Some w) = (turn_idles s (sight s h) (next h)).fact w e in
    let is_later : now h < w = subst (λ r. IsLater (now h) (wake_of r)) e (wake_later s h) in
    subst (λ t. is_quiet (turn_by s (at t (sight s h)) (next h)) ≡ false) (sym (at_least (now h) w is_later))
    (moves_then s (sight s h) (next h) w x.0 (λ g. held_low_at s h (at w (sight s h)) refl refl refl r x.0 g) x.1).fact
