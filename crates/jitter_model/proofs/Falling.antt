-- Each turn that isn't quiet leaves fewer.
use Rattle.std.proofs.Common.{ℕ, zero, suc, ◌≡◌, ◌≢◌, ◌+◌, ◌-◌, ◌≤◌, ◌<◌, Bool, true, false, ◌&&◌, ◌||◌, not, refl, sym, subst, ◌∷◌, Option, None, Some, arith, max}
use Rattle.std.specs.Prelude.{⊤, nat_lt, ◌==◌, if◌then◌else◌}
use Rattle.std.proofs.lemmas.Grind.{common_steps}
use Rattle.jitter_model.specs.declared.Settings.{Settings}
use Rattle.jitter_model.specs.declared.Held.{Held}
use Rattle.jitter_model.specs.declared.Turn.{Turn}
use Rattle.jitter_model.specs.declared.Turn.TheVariants.{Packet, Lost, Request, End, Idle, Flushing}
use Rattle.jitter_model.specs.declared.Entry.TheVariants.{Clock, Turned}
use Rattle.jitter_model.specs.History.{History, is_flushing, is_end}
use Rattle.jitter_model.specs.Accepted.{accepted}
use Rattle.jitter_model.specs.Covered.{next, next_after, served_after}
use Rattle.jitter_model.specs.Requests.{Wanted, due, Asked, earlier}
use Rattle.jitter_model.specs.Turns.{Sight, low, wanted, first_undue, is_asked, asked_for, asked_from, asked, may_give, is_lost, loss_end, is_done, packet_turn, request_turn, lost_turn, turn_by, sight, turn, is_quiet, replies_left_from, left_by, left}
use Rattle.jitter_model.proofs.Chain.{split, by_turn, least_from_le, least_from_above, least_from_after, has-le, least_le_top}
use Rattle.jitter_model.specs.Said.{AskedIn}

-- ---- the sum of what is left

-- with more served it doesn't rise
pub left_from_le : (s : Settings) (f g : ℕ → ℕ) → ((q : ℕ) → f q ≤ g q) → (n count : ℕ) → replies_left_from s g n count ≤ replies_left_from s f n count
left_from_le s f g le n zero = omega arith
left_from_le s f g le n (suc count) = omega (arith, le n, left_from_le s f g le (n + 1) count)

-- with more served of a number in the range it falls
pub left_from_less : (s : Settings) (f g : ℕ → ℕ) → ((q : ℕ) → f q ≤ g q) → (m : ℕ) → f m < g m → f m ≤ s.rtx_max → (n count : ℕ) → n ≤ m → m < n + count → replies_left_from s g n count < replies_left_from s f n count
left_from_less s f g le m less most n zero from to = absurd (omega arith)
left_from_less s f g le m less most n (suc count) from to =
    elim (n == m) as (λ b. (n == m) ≡ b → replies_left_from s g n (suc count) < replies_left_from s f n (suc count)) [
      | true ↦ λ e. let same : n ≡ m = grind (arith, common_steps) in
          let here : f n < g n = subst (λ q. f q < g q) (sym same) less in
          let small : f n ≤ s.rtx_max = subst (λ q. f q ≤ s.rtx_max) (sym same) most in
          omega (arith, left_from_le s f g le (n + 1) count)
      | false ↦ λ e. let other : n ≢ m = grind (arith, common_steps) in
          omega (arith, le n, left_from_less s f g le m less most (n + 1) count (omega arith) (omega arith))
    ] refl

-- from a later number on it is less
pub left_from_later : (s : Settings) (f : ℕ → ℕ) (n count m k j : ℕ) → m ≡ n + suc j → k + suc j ≡ count → replies_left_from s f m k < replies_left_from s f n count
left_from_later s f n zero m k j is_m is_k = absurd (omega arith)
left_from_later s f n (suc count) m k zero is_m is_k =
    let same_m : m ≡ n + 1 = omega arith in
    let same_k : k ≡ count = omega arith in
    rw (same_m, same_k) (omega arith)
left_from_later s f n (suc count) m k (suc j) is_m is_k = omega (arith, left_from_later s f (n + 1) count m k j (omega arith) (omega arith))

-- ---- the request that is answered

wider : (s : Settings) (v : Sight) (n count : ℕ) (o : Option Asked) → AskedIn s v (n + 1) count o → AskedIn s v n (suc count) o
wider s v n count None h = record { fact = tt }
wider s v n count (Some r) h = record { fact = (omega (arith, h.fact.0), omega (arith, h.fact.1), h.fact.2, h.fact.3) }

pub earlier_one : (P : Option Asked → Type 0) (x y : Option Asked) → P x → P y → P (earlier x y)
earlier_one P None y px py = py
earlier_one P (Some x) None px py = px
earlier_one P (Some x) (Some y) px py = split P (nat_lt y.time x.time) (Some y) (Some x) (λ _. py) (λ _. px)

asked_for_in : (s : Settings) (v : Sight) (n count : ℕ) (o : Option Wanted) → AskedIn s v n (suc count) (asked_for s v n o)
asked_for_in s v n count None = record { fact = tt }
asked_for_in s v n count (Some w) =
    split (AskedIn s v n (suc count)) (is_asked s v w (v.served n)) _ _
    (λ e. let small : v.served n ≤ s.rtx_max = grind (arith, common_steps) in
    let due_now : nat_lt v.time (due s w.first (v.served n)) ≡ false = grind (arith, common_steps) in
    let after : v.served n < first_undue s v w.first (v.served n) = least_from_after (λ k. nat_lt v.time (due s w.first k)) (v.served n) (s.rtx_max + 1 - v.served n) due_now (omega arith) in
    let to : first_undue s v w.first (v.served n) ≤ v.served n + (s.rtx_max + 1 - v.served n) = least_from_le (λ k. nat_lt v.time (due s w.first k)) (v.served n) (s.rtx_max + 1 - v.served n) in
    record { fact = (omega arith, omega arith, omega arith, omega arith) })
    (λ e. record { fact = tt })

asked_from_in : (s : Settings) (v : Sight) (n count : ℕ) → AskedIn s v n count (asked_from s v n count)
asked_from_in s v n zero = record { fact = tt }
asked_from_in s v n (suc count) =
    earlier_one (AskedIn s v n (suc count)) (asked_for s v n (wanted s v n)) (asked_from s v (n + 1) count)
    (asked_for_in s v n count (wanted s v n))
    (wider s v n count (asked_from s v (n + 1) count) (asked_from_in s v (n + 1) count))

pub asked_in : (s : Settings) (v : Sight) (o : Option ℕ) → AskedIn s v (low v o) (v.top + 2 - low v o) (asked s v o)
asked_in s v o = asked_from_in s v (low v o) (v.top + 2 - low v o)

-- ---- what is left after a reply

abbrev after : Settings → Sight → Option ℕ → Turn → ℕ
after s v o r =
    replies_left_from s (λ q. served_after (v.served q) r q) (low v (next_after o r)) (v.top + 2 - low v (next_after o r)) + (if is_end r || v.told then 0 else 1)

pub record Falls (s : Settings) (v : Sight) (o : Option ℕ) (r : Turn) : Type 0 where
  pub fact : is_quiet r ≡ false → after s v o r < left_by s v o

served_more : (f : ℕ → ℕ) (m k q : ℕ) → f q ≤ served_after (f q) (Request m k) q
served_more f m k q = split (λ x. f q ≤ x) (q == m) (max (f q) (k + 1)) (f q) (λ _. omega arith) (λ _. omega arith)

served_here : (f : ℕ → ℕ) (m k : ℕ) → f m ≤ k → f m < served_after (f m) (Request m k) m
served_here f m k le = grind (arith, common_steps)

request_falls : (s : Settings) (v : Sight) (o : Option ℕ) (a : Option Asked) → AskedIn s v (low v o) (v.top + 2 - low v o) a → Falls s v o (request_turn a)
request_falls s v o None h = record { fact = λ e. cc }
request_falls s v o (Some r) h =
    record {
      fact = λ _. let less : replies_left_from s (λ q. served_after (v.served q) (Request r.number r.k) q) (low v o) (v.top + 2 - low v o) < replies_left_from s v.served (low v o) (v.top + 2 - low v o) =
          left_from_less s v.served (λ q. served_after (v.served q) (Request r.number r.k) q) (λ q. served_more v.served r.number r.k q) r.number (served_here v.served r.number r.k h.fact.2) (omega (arith, h.fact.2, h.fact.3)) (low v o) (v.top + 2 - low v o) h.fact.0 h.fact.1 in
          omega arith;
    }

packet_falls : (s : Settings) (v : Sight) (o : Option ℕ) (p : Option Held) → low v o ≤ v.top → Falls s v o (packet_turn (low v o) p)
packet_falls s v o None le = record { fact = λ e. cc }
packet_falls s v o (Some p) le =
    record {
      fact = λ _. let less : replies_left_from s v.served (low v o + 1) (v.top + 2 - (low v o + 1)) < replies_left_from s v.served (low v o) (v.top + 2 - low v o) =
          left_from_later s v.served (low v o) (v.top + 2 - low v o) (low v o + 1) (v.top + 2 - (low v o + 1)) 0 (omega arith) (omega arith) in
          omega arith;
    }

give_low : (v : Sight) (o : Option ℕ) → v.least ≤ v.top → ((n : ℕ) → v.among n ≡ true → n ≤ v.top) → may_give v o ≡ true → low v o ≤ v.top
give_low v None le below e = le
give_low v (Some n) le below e = below n e

lost_low : (v : Sight) (o : Option ℕ) → is_lost v o ≡ true → low v o < v.top
lost_low v None e = cc
lost_low v (Some n) e = grind (arith, common_steps)

lost_falls : (s : Settings) (v : Sight) (o : Option ℕ) → low v o < v.top → Falls s v o (lost_turn v.marks (low v o) (loss_end v (low v o)))
lost_falls s v o lt =
    record {
      fact = λ _. let from : low v o + 1 ≤ loss_end v (low v o) = least_from_above _ (low v o + 1) (v.top - (low v o + 1)) in
          let to : loss_end v (low v o) ≤ low v o + 1 + (v.top - (low v o + 1)) = least_from_le _ (low v o + 1) (v.top - (low v o + 1)) in
          let less : replies_left_from s v.served (low v o + (loss_end v (low v o) - low v o)) (v.top + 2 - (low v o + (loss_end v (low v o) - low v o))) < replies_left_from s v.served (low v o) (v.top + 2 - low v o) =
          left_from_later s v.served (low v o) (v.top + 2 - low v o) (low v o + (loss_end v (low v o) - low v o)) (v.top + 2 - (low v o + (loss_end v (low v o) - low v o))) (loss_end v (low v o) - low v o - 1) (omega arith) (omega arith) in
          omega arith;
    }

not_told : (a b told : Bool) → (a && b && not told) ≡ true → told ≡ false
not_told true true false e = refl
not_told true true true e = cc
not_told true false t e = cc
not_told false b t e = cc

end_falls : (s : Settings) (v : Sight) (o : Option ℕ) → v.told ≡ false → Falls s v o End
end_falls s v o e = record { fact = λ _. rw e (omega arith) }

pub turn_falls : (s : Settings) (v : Sight) (o : Option ℕ) → v.least ≤ v.top → ((n : ℕ) → v.among n ≡ true → n ≤ v.top) → Falls s v o (turn_by s v o)
turn_falls s v o le below =
    by_turn (Falls s v o) s v o
    (λ _. record { fact = λ e. cc })
    (λ _ _. request_falls s v o (asked s v o) (asked_in s v o))
    (λ _ _ g. packet_falls s v o (v.held (low v o)) (give_low v o le below g))
    (λ _ _ _ l. lost_falls s v o (lost_low v o l))
    (λ _ _ _ _ e. end_falls s v o (not_told v.ended (is_done v o) v.told e))
    (λ _ _ _ _ _. record { fact = λ e. cc })

flushing_quiet : (s : Settings) (h : History) → is_flushing h ≡ true → is_quiet (turn s h) ≡ true
flushing_quiet s h e = rw e refl

outside_falls : (s : Settings) (h : History) (r : Turn) → is_flushing h ≡ false → Falls s (sight s h) (next h) r → is_quiet r ≡ false → left s (Turned r ∷ h) < left s h
outside_falls s h r e f q = rw e (f.fact q)

-- a turn that isn't quiet leaves fewer
pub left_falls : (s : Settings) (h : History) → is_quiet (turn s h) ≡ false → left s (Turned (turn s h) ∷ h) < left s h
left_falls s h q =
    elim (is_flushing h) as (λ b. is_flushing h ≡ b → left s (Turned (turn s h) ∷ h) < left s h) [
      | true ↦ λ e. absurd (let quiet : is_quiet (turn s h) ≡ true = flushing_quiet s h e in cc)
      | false ↦ λ e. outside_falls s h (turn s h) e (turn_falls s (sight s h) (next h) (least_le_top (accepted h)) (has-le (accepted h))) q
    ] refl

-- a quiet turn leaves the same
pub quiet_same : (s : Settings) (h : History) (r : Turn) → is_quiet r ≡ true → left s (Turned r ∷ h) ≡ left s h
quiet_same s h (Idle wake) e = refl
quiet_same s h Flushing e = refl
quiet_same s h (Packet n pts p) e = cc
quiet_same s h (Lost n count pts d) e = cc
quiet_same s h (Request n k) e = cc
quiet_same s h End e = cc

-- no turn leaves more
pub left_le : (s : Settings) (h : History) → left s (Turned (turn s h) ∷ h) ≤ left s h
left_le s h =
    elim (is_quiet (turn s h)) as (λ b. is_quiet (turn s h) ≡ b → left s (Turned (turn s h) ∷ h) ≤ left s h) [
      | true ↦ λ e. omega (arith, quiet_same s h (turn s h) e)
      | false ↦ λ e. omega (arith, left_falls s h e)
    ] refl

-- a step of the clock leaves the same
pub clock_same : (s : Settings) (h : History) (t : ℕ) → left s (Clock t ∷ h) ≡ left s h
clock_same s h t = refl
