-- Timers stay right while what they go by stays.
use Rattle.std.proofs.Common.{ℕ, ◌≡◌, ◌≢◌, ◌+◌, ◌-◌, ◌≤◌, ◌<◌, Bool, true, false, refl, sym, ap, subst, ◌∙◌, Option, None, Some, arith}
use Rattle.std.specs.Prelude.{nat_le, ◌==◌, ◌%◌, unwrap_or, if◌then◌else◌}
use Rattle.std.proofs.lemmas.Grind.{common_steps}
use Rattle.std.specs.FinMap as map
use Rattle.std.specs.Cmp.{nat_cmp_total, unsigned_tied}
use Rattle.jitter_timers.specs.Timers.{Timers, Times, HasRoom}
use Rattle.jitter_model.specs.declared.Settings.{Settings}
use Rattle.jitter_model.specs.Requests.{Wanted, Asked}
use Rattle.jitter_model.specs.Turns.{Sight, low, wanted}
use Rattle.jitter_core.specs.declared.state.State.{State}
use Rattle.jitter_core.specs.Served.{served_in, with_served}
use Rattle.jitter_core.specs.Steps.{IsBounded}
use Rattle.jitter_core.specs.Scheduling.{pending_of, pending, with_timer, is_over, IsTimer, AreTimers}
use Rattle.jitter_core.specs.Turning.{state_sight, state_asked}
use Rattle.jitter_core.proofs.Leaving.{near}
use Rattle.jitter_core.proofs.Serving.{served_with, apart}
use Rattle.jitter_core.proofs.Timers.{pending_above, InRange, in_range, has_room}
use Rattle.jitter_model.specs.Said.{AskedIn}
use Rattle.jitter_model.specs.Known.{RepliesTell}

-- what a number's requests were: the same, from the lowest number on
pub record Keeps (s : Settings) (v w : Sight) (q : ℕ) : Type 0 where
  pub wanted_is : wanted s w q ≡ wanted s v q
  pub pending_is : pending s w q ≡ pending s v q

over_later : (t u : ℕ) (x : Option Wanted) → t ≤ u → is_over u x ≡ false → is_over t x ≡ false
over_later t u None le e = e
over_later t u (Some w) le e = grind (arith, common_steps)

at_least : (to q : ℕ) (timer : Option ℕ) (t : ℕ) → timer ≡ Some t → (q < to → timer ≡ None) → to ≤ q
at_least to q timer t e gone =
    elim (nat_le to q) as (λ b. nat_le to q ≡ b → to ≤ q) [
      | true ↦ λ f. grind (arith, common_steps)
      | false ↦ λ f. absurd (let none : timer ≡ None = gone (grind (arith, common_steps)) in cc)
    ] refl

pub carry : (s : Settings) (v w : Sight) (from to q : ℕ) (timer : Option ℕ) → IsTimer s v from q timer → from ≤ to → (to ≤ q → Keeps s v w q) → v.time ≤ w.time → (q < to → timer ≡ None) → IsTimer s w to q timer
carry s v w from to q timer h le keeps time gone =
    record {
      some = λ t e. let reaches : to ≤ q = at_least to q timer t e gone in (reaches, (keeps reaches).pending_is ∙ (h.some t e).1);
      none = λ e reaches alive. (keeps reaches).pending_is ∙ h.none e (omega arith) (over_later v.time w.time (wanted s v q) time (subst (λ (x : Option Wanted). is_over w.time x ≡ false) (keeps reaches).wanted_is alive));
    }

-- a timer that was just set
pub just_set : (s : Settings) (v : Sight) (from q : ℕ) → from ≤ q → IsTimer s v from q (pending s v q)
just_set s v from q le = record { some = λ t e. (le, e); none = λ e _ _. e }

pub get_with : (m : Times) (n q : ℕ) (x : Option ℕ) → map.get (with_timer m n x) q ≡ (if q == n then x else map.get m q)
get_with m n q None = map.get-remove nat_cmp_total m n q ∙ ap (λ (b : Bool). if b then None else map.get m q) (unsigned_tied q n)
get_with m n q (Some t) = map.get-insert nat_cmp_total m n t q ∙ ap (λ (b : Bool). if b then Some t else map.get m q) (unsigned_tied q n)

set_here : (s : Settings) (w : Sight) (to n q : ℕ) (m : Times) → to ≤ n → (q ≢ n → IsTimer s w to q (map.get m q)) → IsTimer s w to q (if q == n then pending s w n else map.get m q)
set_here s w to n q m le others =
    elim (q == n) as (λ b. (q == n) ≡ b → IsTimer s w to q (if b then pending s w n else map.get m q)) [
      | true ↦ λ e. let same : q ≡ n = grind (arith, common_steps) in subst (λ (k : ℕ). IsTimer s w to k (pending s w n)) (sym same) (just_set s w to n le)
      | false ↦ λ e. others (grind (arith, common_steps))
    ] refl

-- the timer of one number set anew, the others right already
pub set_timer : (s : Settings) (w : Sight) (to n q : ℕ) (m : Times) → to ≤ n → (q ≢ n → IsTimer s w to q (map.get m q)) → IsTimer s w to q (map.get (with_timer m n (pending s w n)) q)
set_timer s w to n q m le others =
    subst (λ (o : Option ℕ). IsTimer s w to q o) (sym (get_with m n q (pending s w n))) (set_here s w to n q m le others)

-- ---- a request is served

abbrev pub serving : State → ℕ → ℕ → State
serving s n k = record s { served = with_served s.served n (k + 1) }

-- a request that is asked is of a number in range
pub record IsInRange (s : State) (n : ℕ) : Type 0 where
  pub from : low (state_sight s) s.span.next ≤ n
  pub to : n ≤ unwrap_or s.span.top 0 + 1

pub asked_range : RepliesTell → (s : State) (a : Asked) → Some a ≡ state_asked s → IsInRange s a.number
asked_range replies s a e =
    let x : AskedIn s.settings (state_sight s) (low (state_sight s) s.span.next) (unwrap_or s.span.top 0 + 2 - low (state_sight s) s.span.next) (Some a) = subst (λ (o : Option Asked). AskedIn s.settings (state_sight s) (low (state_sight s) s.span.next) (unwrap_or s.span.top 0 + 2 - low (state_sight s) s.span.next) o) (sym e) (replies.requests s.settings (state_sight s) s.span.next) in
    record { from = x.fact.0; to = omega (arith, x.fact.0, x.fact.1) }

other_served : (s : State) (n k q : ℕ) → IsBounded s → IsInRange s n → low (state_sight s) s.span.next ≤ q → q ≤ unwrap_or s.span.top 0 + 1 → q ≢ n → served_in (with_served s.served n (k + 1)) q ≡ served_in s.served q
other_served s n k q b r from to other =
    served_with s.served n (k + 1) q b.places
    ∙ elim (q % 16384 == n % 16384) as (λ c. (q % 16384 == n % 16384) ≡ c → (if c then (if q == n then k + 1 else 0) else served_in s.served q) ≡ served_in s.served q) [
      | true ↦ λ e. let place : q % 16384 ≡ n % 16384 = grind (arith, common_steps) in
          absurd (other (apart (low (state_sight s) s.span.next) q n from r.from (omega (arith, near s b)) (omega (arith, near s b, r.to)) place))
      | false ↦ λ _. refl
    ] refl

served_keeps : (s : State) (n k q : ℕ) → IsBounded s → IsInRange s n → q ≢ n → low (state_sight s) s.span.next ≤ q → Keeps s.settings (state_sight s) (state_sight (serving s n k)) q
served_keeps s n k q b r other from =
    record {
      wanted_is = refl;
      pending_is = elim (nat_le q (unwrap_or s.span.top 0 + 1)) as (λ c. nat_le q (unwrap_or s.span.top 0 + 1) ≡ c → pending s.settings (state_sight (serving s n k)) q ≡ pending s.settings (state_sight s) q) [
        | true ↦ λ e. ap (λ (x : ℕ). pending_of s.settings x (wanted s.settings (state_sight s) q)) (other_served s n k q b r from (grind (arith, common_steps)) other)
        | false ↦ λ e. pending_above s.settings (state_sight (serving s n k)) q (grind (arith, common_steps)) ∙ sym (pending_above s.settings (state_sight s) q (grind (arith, common_steps)))
      ] refl;
    }

pub below_none : (s : Settings) (v : Sight) (from q : ℕ) (o : Option ℕ) → IsTimer s v from q o → q < from → o ≡ None
below_none s v from q None h lt = refl
below_none s v from q (Some t) h lt = let le : from ≤ q = (h.some t refl).0 in absurd (omega arith)

pub served_timers : (s : State) (n k : ℕ) (m : Times) → IsBounded s → IsInRange s n → AreTimers s m → AreTimers (serving s n k) (with_timer m n (pending s.settings (state_sight (serving s n k)) n))
served_timers s n k m b r h q =
    set_timer s.settings (state_sight (serving s n k)) (low (state_sight s) s.span.next) n q m r.from (λ other.
    carry s.settings (state_sight s) (state_sight (serving s n k)) (low (state_sight s) s.span.next) (low (state_sight s) s.span.next) q (map.get m q) (h q) (omega arith) (λ from. served_keeps s n k q b r other from) (omega arith)
    (λ lt. below_none s.settings (state_sight s) (low (state_sight s) s.span.next) q (map.get m q) (h q) lt))

-- there is room for its timer
pub room_for : (s : State) (x : Timers) (n : ℕ) → IsBounded s → x.room ≡ 16384 → AreTimers s x.times → IsInRange s n → HasRoom x n
room_for s x n b room h r = has_room s x n b room (λ q e. let y : InRange s q = in_range s x.times q h e in (y.from, y.to)) r.from r.to
