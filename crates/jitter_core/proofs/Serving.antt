-- How many requests of a number were served: none of a number outside the window, and what a Request changes.
use Rattle.std.proofs.Common.{length-set, get_or-set_same, get_or-set_other, ℕ, zero, suc, ◌≡◌, ◌≢◌, ◌+◌, ◌-◌, ◌<◌, ◌≤◌, Bool, true, false, refl, sym, ap, subst, ◌∙◌, List, [], ◌∷◌, Option, None, Some, arith, max, min, length}
use Rattle.std.specs.Prelude.{◌%◌, ◌==◌, is_some, unwrap_or, slice_index_or, slice_set, if◌then◌else◌}
use Rattle.std.proofs.lemmas.Grind.{common_steps}
use Rattle.jitter_model.specs.declared.Settings.{Settings}
use Rattle.jitter_model.specs.declared.Arrival.{Arrival}
use Rattle.jitter_model.specs.declared.Held.{Held}
use Rattle.jitter_model.specs.declared.Turn.{Turn}
use Rattle.jitter_model.specs.declared.Turn.TheVariants.{Packet, Lost, Request, End, Idle, Flushing as Flushes}
use Rattle.jitter_model.specs.declared.Verdict.{Verdict}
use Rattle.jitter_model.specs.declared.Verdict.TheVariants.{Accepted, Aside, Restart, Late, Duplicate, Full, Stray, Flushing, Ended}
use Rattle.jitter_model.specs.declared.Entry.TheVariants.{Push, Clock, FlushStart, FlushStop, Latency, Report, Ends, Turned}
use Rattle.jitter_model.specs.History.{History, is_flushing}
use Rattle.jitter_model.specs.Accepted.{Taken, top, least, aside, accepted, taken_after}
use Rattle.jitter_model.specs.Covered.{next, next_after, opens, served, served_after}
use Rattle.jitter_model.specs.Times.{marks}
use Rattle.jitter_model.specs.Requests.{Asked}
use Rattle.jitter_model.specs.Turns.{Sight, low, wanted, asked_from, asked, packet_turn, request_turn, turn_by, sight, turn, replies_left, replies_left_from}
use Rattle.jitter_model.specs.Runs.{Run}
use Rattle.jitter_core.specs.declared.served.Service.{Service}
use Rattle.jitter_core.specs.Served.{unserved, count_for, served_in, with_served}
use Rattle.jitter_model.specs.Said.{AskedIn}
use Rattle.jitter_core.proofs.Cases.{by_turn}
use Rattle.jitter_model.specs.Known.{RepliesTell}

-- ---- what a Request says

-- a request that is answered: its number has one, from the lowest number to the one after the greatest, and it was not served before
pub record IsRequest (s : Settings) (v : Sight) (o : Option ℕ) (n k : ℕ) : Type 0 where
  pub is_asked : is_some (asked s v o) ≡ true
  pub from : low v o ≤ n
  pub to : n < low v o + (v.top + 2 - low v o)
  pub unserved : v.served n ≤ k
  pub most : k ≤ s.rtx_max

abbrev Requesting : Settings → Sight → Option ℕ → ℕ → ℕ → Turn → Type 0
Requesting s v o n k r = Request n k ≡ r → IsRequest s v o n k

record AreRequests (s : Settings) (v : Sight) (o : Option ℕ) (n k : ℕ) (r : Turn) : Type 0 where
  fact : Requesting s v o n k r

by_asked : (s : Settings) (v : Sight) (o : Option ℕ) (n k : ℕ) (x : Option Asked) → is_some (asked s v o) ≡ true → AskedIn s v (low v o) (v.top + 2 - low v o) x → AreRequests s v o n k (request_turn x)
by_asked s v o n k None some h = record { fact = λ e. cc }
by_asked s v o n k (Some r) some h =
    record {
      fact = λ e.
          let number : n ≡ r.number = cc in
          let which : k ≡ r.k = cc in
          record { is_asked = some; from = omega (arith, h.fact.0); to = omega (arith, h.fact.1); unserved = rw (number, which) h.fact.2; most = omega (arith, h.fact.3) };
    }

no_packet : (s : Settings) (v : Sight) (o : Option ℕ) (n k m : ℕ) (x : Option Held) → AreRequests s v o n k (packet_turn m x)
no_packet s v o n k m None = record { fact = λ e. cc }
no_packet s v o n k m (Some p) = record { fact = λ e. cc }

pub requests : RepliesTell → (s : Settings) (v : Sight) (o : Option ℕ) (n k : ℕ) → Request n k ≡ turn_by s v o → IsRequest s v o n k
requests replies s v o n k is =
    (by_turn (AreRequests s v o n k) s v o
    (λ _. record { fact = λ e. cc })
    (λ _ some. by_asked s v o n k (asked s v o) some (replies.requests s v o))
    (λ _ _ _. no_packet s v o n k (low v o) (v.held (low v o)))
    (λ _ _ _ _. record { fact = λ e. cc })
    (λ _ _ _ _ _. record { fact = λ e. cc })
    (λ _ _ _ _ _. record { fact = λ e. cc })).fact is

-- ---- where requests were served

no_wanted : (s : Settings) (v : Sight) (n : ℕ) → v.top ≡ 0 → v.marks ≡ [] → wanted s v n ≡ None
no_wanted s v n t e = grind (arith, common_steps)

no_asked : (s : Settings) (v : Sight) (n count : ℕ) → v.top ≡ 0 → v.marks ≡ [] → asked_from s v n count ≡ None
no_asked s v n zero t e = refl
no_asked s v n (suc count) t e = rw (no_wanted s v n t e, no_asked s v (n + 1) count t e) refl

-- where nothing was accepted nothing is requested
some_accepted : (s : Settings) (h : History) (ps : List Taken) → ps ≡ accepted h → is_some (asked s (sight s h) (next h)) ≡ true → is_some (least ps) ≡ true
some_accepted s h [] e some =
    let none : asked s (sight s h) (next h) ≡ None = no_asked s (sight s h) _ _ (ap (λ (ps : List Taken). unwrap_or (top ps) 0) (sym e)) (ap (λ (ps : List Taken). marks s ps) (sym e)) in
    cc
some_accepted s h (p ∷ ps) e some = refl

-- a number of which requests were served: something was accepted, and it is at most one past the greatest, and nothing lower than the least where the next number isn't known
pub record IsServed (t l o : Option ℕ) (n count : ℕ) : Type 0 where
  pub fact : 0 < count → (is_some l ≡ true) × (n ≤ unwrap_or t 0 + 1) × (o ≡ None → unwrap_or l 0 ≤ n)

lower : (l : Option ℕ) (m n : ℕ) → is_some l ≡ true → unwrap_or l 0 ≤ n → min m (unwrap_or l m) ≤ n
lower None m n e le = cc
lower (Some x) m n e le = omega arith

push_served : (h : History) (a : Arrival) (v : Verdict) (q : ℕ) → IsServed (top (accepted h)) (least (accepted h)) (next h) q (served h q) → IsServed (top (taken_after (accepted h) (aside h) a v)) (least (taken_after (accepted h) (aside h) a v)) (if opens v then None else next h) q (if opens v then 0 else served h q)
push_served h a Accepted q g = record { fact = λ some. (refl, omega (arith, (g.fact some).1), λ none. lower (least (accepted h)) _ q (g.fact some).0 ((g.fact some).2 none)) }
push_served h a (Restart d) q g = record { fact = λ some. absurd (omega arith) }
push_served h a Aside q g = g
push_served h a Late q g = g
push_served h a Duplicate q g = g
push_served h a Full q g = g
push_served h a Stray q g = g
push_served h a Flushing q g = g
push_served h a Ended q g = g

flush_served : (b : Bool) (ps : List Taken) (o : Option ℕ) (q count : ℕ) → IsServed (top ps) (least ps) o q count → IsServed (top (if b then [] else ps)) (least (if b then [] else ps)) (if b then None else o) q (if b then 0 else count)
flush_served true ps o q count g = record { fact = λ some. absurd (omega arith) }
flush_served false ps o q count g = g

from_least : (h : History) (s : Settings) (n : ℕ) (o : Option ℕ) → low (sight s h) o ≤ n → o ≡ None → unwrap_or (least (accepted h)) 0 ≤ n
from_least h s n None le e = le
from_least h s n (Some k) le e = cc

turned_served : RepliesTell → (s : Settings) (h : History) (r : Turn) (q : ℕ) → r ≡ turn s h → IsServed (top (accepted h)) (least (accepted h)) (next h) q (served h q) → IsServed (top (accepted h)) (least (accepted h)) (next_after (next h) r) q (served_after (served h q) r q)
turned_served replies s h (Packet n pts p) q is g = record { fact = λ some. ((g.fact some).0, (g.fact some).1, λ none. cc) }
turned_served replies s h (Lost n count pts d) q is g = record { fact = λ some. ((g.fact some).0, (g.fact some).1, λ none. cc) }
turned_served replies s h (Request n k) q is g =
    let x : IsRequest s (sight s h) (next h) n k = requests replies s (sight s h) (next h) n k is in
    elim (q == n) as (λ b. (q == n) ≡ b → IsServed (top (accepted h)) (least (accepted h)) (next h) q (if b then max (served h q) (k + 1) else served h q)) [
      | true ↦ λ e. let same : q ≡ n = grind (arith, common_steps) in
          record { fact = λ some. (some_accepted s h (accepted h) refl x.is_asked, omega (arith, x.from, x.to, same), λ none. omega (arith, same, from_least h s n (next h) x.from none)) }
      | false ↦ λ _. g
    ] refl
turned_served replies s h End q is g = g
turned_served replies s h (Idle wake) q is g = g
turned_served replies s h Flushes q is g = g

pub all_served : RepliesTell → (s : Settings) (h : History) (q : ℕ) → Run s h → IsServed (top (accepted h)) (least (accepted h)) (next h) q (served h q)
all_served replies s [] q r = record { fact = λ some. absurd (omega arith) }
all_served replies s (Push a v n d ∷ h) q r = push_served h a v q (all_served replies s h q r.1)
all_served replies s (Clock t ∷ h) q r = record { fact = (all_served replies s h q r.1).fact }
all_served replies s (FlushStart d ∷ h) q r = record { fact = (all_served replies s h q r.1).fact }
all_served replies s (FlushStop ∷ h) q r = flush_served (is_flushing h) (accepted h) (next h) q (served h q) (all_served replies s h q r)
all_served replies s (Latency ns ∷ h) q r = record { fact = (all_served replies s h q r.1).fact }
all_served replies s (Report ntp rtp reply ∷ h) q r = record { fact = (all_served replies s h q r.1).fact }
all_served replies s (Ends p ∷ h) q r = record { fact = (all_served replies s h q r.1).fact }
all_served replies s (Turned t ∷ h) q r = turned_served replies s h t q r.0 (all_served replies s h q r.1)

-- ---- one more is served

slot_is : (xs : List Service) (i j : ℕ) (x : Service) → i < length xs → slice_index_or (slice_set xs i x) j unserved ≡ (if j == i then x else slice_index_or xs j unserved)
slot_is xs i j x lt =
    elim (j == i) as (λ b. (j == i) ≡ b → slice_index_or (slice_set xs i x) j unserved ≡ (if b then x else slice_index_or xs j unserved)) [
      | true ↦ λ e. let is : j ≡ i = grind (arith, common_steps) in subst (λ (k : ℕ). slice_index_or (slice_set xs i x) k unserved ≡ x) (sym is) (get_or-set_same xs i x unserved lt)
      | false ↦ λ e. let other : j ≢ i = grind (arith, common_steps) in rw get_or-set_other refl
    ] refl

pub served_long : (xs : List Service) (n count : ℕ) → length (with_served xs n count) ≡ length xs
served_long xs n count = simp length-set

-- the place of a number is taken by it, and other places stay
pub served_with : (xs : List Service) (n count q : ℕ) → length xs ≡ 16384 → served_in (with_served xs n count) q ≡ (if q % 16384 == n % 16384 then (if q == n then count else 0) else served_in xs q)
served_with xs n count q long =
    ap (λ (x : Service). count_for x q) (slot_is xs (n % 16384) (q % 16384) (record { number = n; count = count }) (omega arith))
    ∙ elim (q % 16384 == n % 16384) as (λ b. count_for (if b then record { number = n; count = count } else slice_index_or xs (q % 16384) unserved) q ≡ (if b then (if q == n then count else 0) else served_in xs q)) [
      | true ↦ refl
      | false ↦ refl
    ]

-- it stands for the number of requests served, of each number that is still owed
pub served_more : (xs : List Service) (n k q before : ℕ) → length xs ≡ 16384 → served_in xs q ≡ before → (q ≡ n → before ≤ k) → (q % 16384 ≡ n % 16384 → q ≢ n → before ≡ 0) → served_in (with_served xs n (k + 1)) q ≡ served_after before (Request n k) q
served_more xs n k q before long is low none =
    served_with xs n (k + 1) q long
    ∙ elim (q % 16384 == n % 16384) as (λ b. (q % 16384 == n % 16384) ≡ b → (if b then (if q == n then k + 1 else 0) else served_in xs q) ≡ (if q == n then max before (k + 1) else before)) [
      | true ↦ λ e. let same : q % 16384 ≡ n % 16384 = grind (arith, common_steps) in
          elim (q == n) as (λ b. (q == n) ≡ b → (if b then k + 1 else 0) ≡ (if b then max before (k + 1) else before)) [
            | true ↦ λ f. let le : before ≤ k = low (grind (arith, common_steps)) in omega arith
            | false ↦ λ f. sym (none same (grind (arith, common_steps)))
          ] refl
      | false ↦ λ e. let other : q % 16384 ≢ n % 16384 = grind (arith, common_steps) in
          let apart : q ≢ n = λ f. other (ap (λ (m : ℕ). m % 16384) f) in
          let not_it : (q == n) ≡ false = grind (arith, common_steps) in
          rw not_it is
    ] refl

-- two numbers of a window don't have one place
pub apart : (low q n : ℕ) → low ≤ q → low ≤ n → q < low + 16384 → n < low + 16384 → q % 16384 ≡ n % 16384 → q ≡ n
apart low q n a b c d e = omega arith

-- ---- the measure goes by the numbers of its range alone

pub left_same : (s : Settings) (f g : ℕ → ℕ) (n count : ℕ) → ((q : ℕ) → n ≤ q → q < n + count → f q ≡ g q) → replies_left_from s f n count ≡ replies_left_from s g n count
left_same s f g n zero same = refl
left_same s f g n (suc count) same =
    ap (λ (x : ℕ). (s.rtx_max + 1 - x) + 1 + replies_left_from s f (n + 1) count) (same n (omega arith) (omega arith))
    ∙ ap (λ (x : ℕ). replies_left s g n + x) (left_same s f g (n + 1) count (λ q a b. same q (omega arith) (omega arith)))
