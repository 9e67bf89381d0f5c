-- A series of turns asks for each number at most once, so for no more than 8192.
use Rattle.std.proofs.Common.{ℕ, zero, suc, ◌≡◌, ◌≢◌, ◌+◌, ◌-◌, ◌≤◌, ◌<◌, Bool, true, false, ◌&&◌, refl, sym, ap, subst, ◌∙◌, List, [], ◌∷◌, ◌++◌, length, Option, None, Some, arith, max, unwrap_or}
use Rattle.std.specs.Prelude.{◌==◌, nat_lt, nat_le, if◌then◌else◌}
use Rattle.std.proofs.Props.{props}
use Rattle.std.proofs.Math.Logic.{∥∥₁_elim}
use Rattle.std.proofs.lemmas.Grind.{common_steps}
use Rattle.std.proofs.lemmas.List.{length-append}
use Rattle.jitter_model.specs.declared.Settings.{Settings}
use Rattle.jitter_model.specs.declared.Held.{Held}
use Rattle.jitter_model.specs.declared.Turn.{Turn}
use Rattle.jitter_model.specs.declared.Turn.TheVariants.{Lost, Request}
use Rattle.jitter_model.specs.declared.Entry.TheVariants.{Turned}
use Rattle.jitter_model.specs.History.{History}
use Rattle.jitter_model.specs.Accepted.{top, least, accepted}
use Rattle.jitter_model.specs.Covered.{next, next_after, served_after}
use Rattle.jitter_model.specs.Laws.{IsWindow}
use Rattle.jitter_model.specs.Requests.{Wanted, Asked, due}
use Rattle.jitter_model.specs.Runs.{Run}
use Rattle.jitter_model.specs.Turns.{Sight, low, wanted, first_undue, is_asked, asked_for, asked_from, asked, packet_turn, request_turn, turn_by, sight, turn}
use Rattle.jitter_core.specs.declared.buffer.Buffer.{Buffer}
use Rattle.jitter_core.specs.Words.{Stands, settings_of}
use Rattle.replay_model.specs.Turning.{asked_by}
use Rattle.lane_core.specs.declared.counts.Counts.{Counts}
use Rattle.lane_core.specs.Totals.{IsCounted}
use Rattle.lane_core.proofs.Cases.{split, earlier_one, by_turn, least_from_le, least_from_after, least_from_passes}

-- ---- how many numbers pass

abbrev pub one_of : Bool → ℕ
one_of true = 1
one_of false = 0

abbrev pub passing : (ℕ → Bool) → ℕ → ℕ → ℕ
passing p n zero = 0
passing p n (suc count) = one_of (p n) + passing p (n + 1) count

one_at_most : (b : Bool) → one_of b ≤ 1
one_at_most true = omega arith
one_at_most false = omega arith

passing_most : (p : ℕ → Bool) (n count : ℕ) → passing p n count ≤ count
passing_most p n zero = omega arith
passing_most p n (suc count) = omega (arith, passing_most p (n + 1) count, one_at_most (p n))

-- where one of them doesn't, there are fewer
passing_gap : (p : ℕ → Bool) (n count m : ℕ) → n ≤ m → m < n + count → p m ≡ false → passing p n count + 1 ≤ count
passing_gap p n zero m from to e = absurd (omega arith)
passing_gap p n (suc count) m from to e =
    elim (n == m) as (λ b. (n == m) ≡ b → passing p n (suc count) + 1 ≤ suc count) [
      | true ↦ λ at. let same : m ≡ n = grind (arith, common_steps) in
          let none : p n ≡ false = subst (λ (q : ℕ). p q ≡ false) same e in
          let zero_here : one_of (p n) ≡ 0 = ap one_of none in
          omega (arith, zero_here, passing_most p (n + 1) count)
      | false ↦ λ at. let other : n ≢ m = grind (arith, common_steps) in
          omega (arith, one_at_most (p n), passing_gap p (n + 1) count m (omega arith) (omega arith) e)
    ] refl

-- those from a later number on
passing_next : (p : ℕ → Bool) (n count fewer : ℕ) → fewer ≡ count - 1 → passing p (n + 1) fewer ≤ passing p n count
passing_next p n zero fewer e = let none : fewer ≡ 0 = omega arith in rw none (omega arith)
passing_next p n (suc count) fewer e = let same : fewer ≡ count = omega arith in rw same (omega arith)

passing_later : (p : ℕ → Bool) (end n j : ℕ) → passing p (n + j) (end - (n + j)) ≤ passing p n (end - n)
passing_later p end n zero = let same : n + 0 ≡ n = omega arith in rw same (omega arith)
passing_later p end n (suc j) =
    let same : n + suc j ≡ n + j + 1 = omega arith in
    rw same (omega (arith, passing_next p (n + j) (end - (n + j)) (end - (n + j + 1)) (omega arith), passing_later p end n j))

passing_from : (p : ℕ → Bool) (end n m : ℕ) → n ≤ m → passing p m (end - m) ≤ passing p n (end - n)
passing_from p end n m le = let same : m ≡ n + (m - n) = omega arith in subst (λ (q : ℕ). passing p q (end - q) ≤ passing p n (end - n)) (sym same) (passing_later p end n (m - n))

passing_same : (p q : ℕ → Bool) → ((n : ℕ) → q n ≡ p n) → (n count : ℕ) → passing q n count ≡ passing p n count
passing_same p q h n zero = refl
passing_same p q h n (suc count) = omega (arith, ap one_of (h n), passing_same p q h (n + 1) count)

passing_le : (p q : ℕ → Bool) (m : ℕ) → ((n : ℕ) → n ≢ m → q n ≡ p n) → q m ≡ false → (n count : ℕ) → passing q n count ≤ passing p n count
passing_le p q m h e n zero = omega arith
passing_le p q m h e n (suc count) =
    elim (n == m) as (λ b. (n == m) ≡ b → passing q n (suc count) ≤ passing p n (suc count)) [
      | true ↦ λ at. let same : m ≡ n = grind (arith, common_steps) in
          let none : q n ≡ false = subst (λ (x : ℕ). q x ≡ false) same e in
          let zero_here : one_of (q n) ≡ 0 = ap one_of none in
          omega (arith, zero_here, passing_le p q m h e (n + 1) count)
      | false ↦ λ at. let other : n ≢ m = grind (arith, common_steps) in
          omega (arith, ap one_of (h n other), passing_le p q m h e (n + 1) count)
    ] refl

-- where one that passed doesn't any more, and the others are as they were
passing_less : (p q : ℕ → Bool) (m : ℕ) → ((n : ℕ) → n ≢ m → q n ≡ p n) → q m ≡ false → p m ≡ true → (n count : ℕ) → n ≤ m → m < n + count → passing q n count + 1 ≤ passing p n count
passing_less p q m h off on n zero from to = absurd (omega arith)
passing_less p q m h off on n (suc count) from to =
    elim (n == m) as (λ b. (n == m) ≡ b → passing q n (suc count) + 1 ≤ passing p n (suc count)) [
      | true ↦ λ at. let same : m ≡ n = grind (arith, common_steps) in
          let none : q n ≡ false = subst (λ (x : ℕ). q x ≡ false) same off in
          let some : p n ≡ true = subst (λ (x : ℕ). p x ≡ true) same on in
          let zero_here : one_of (q n) ≡ 0 = ap one_of none in
          let one_here : one_of (p n) ≡ 1 = ap one_of some in
          omega (arith, zero_here, one_here, passing_le p q m h off (n + 1) count)
      | false ↦ λ at. let other : n ≢ m = grind (arith, common_steps) in
          omega (arith, ap one_of (h n other), passing_less p q m h off on (n + 1) count (omega arith) (omega arith))
    ] refl

-- ---- the numbers that are asked for now

abbrev pub asks_by : Settings → Sight → ℕ → Option Wanted → Bool
asks_by s v served None = false
asks_by s v served (Some w) = is_asked s v w served

-- whether a number has a request that is due, where so many were served
abbrev pub asks : Settings → Sight → (ℕ → ℕ) → ℕ → Bool
asks s v served n = asks_by s v (served n) (wanted s v n)

-- how many are asked for now, from a number on
abbrev pub asks_from : Settings → Sight → (ℕ → ℕ) → ℕ → ℕ
asks_from s v served n = passing (asks s v served) n (v.top + 2 - n)

abbrev pub asks_left : Settings → History → ℕ
asks_left s h = asks_from s (sight s h) (sight s h).served (low (sight s h) (next h))

-- the greatest number isn't asked for
top_wanted : (s : Settings) (v : Sight) → wanted s v v.top ≡ None
top_wanted s v = grind (arith, common_steps)

top_rests : (s : Settings) (v : Sight) (served : ℕ → ℕ) → asks s v served v.top ≡ false
top_rests s v served = ap (asks_by s v (served v.top)) (top_wanted s v)

asks_few : (s : Settings) (v : Sight) (served : ℕ → ℕ) (n : ℕ) → v.top < n + 8192 → asks_from s v served n ≤ 8192
asks_few s v served n near =
    elim (nat_le n v.top) as (λ b. nat_le n v.top ≡ b → asks_from s v served n ≤ 8192) [
      | true ↦ λ e. let le : n ≤ v.top = grind (arith, common_steps) in
          omega (arith, passing_gap (asks s v served) n (v.top + 2 - n) v.top le (omega arith) (top_rests s v served))
      | false ↦ λ e. let lt : v.top < n = grind (arith, common_steps) in
          omega (arith, passing_most (asks s v served) n (v.top + 2 - n))
    ] refl

near_by : (t m n : Option ℕ) → IsWindow t m n → unwrap_or t 0 < unwrap_or n (unwrap_or m 0) + 8192
near_by None None None = λ w. omega arith
near_by (Some g) (Some l) None = λ w. omega (arith, w.0)
near_by (Some g) (Some l) (Some n) = λ w. omega (arith, w.0)
near_by (Some g) None o = λ w. absurd w
near_by None (Some l) o = λ w. absurd w
near_by None None (Some n) = λ w. absurd w

low_by : (v : Sight) (o : Option ℕ) → low v o ≡ unwrap_or o v.least
low_by v None = refl
low_by v (Some n) = refl

pub few_left : (s : Settings) (h : History) → IsWindow (top (accepted h)) (least (accepted h)) (next h) → asks_left s h ≤ 8192
few_left s h w =
    let at : low (sight s h) (next h) ≡ unwrap_or (next h) (unwrap_or (least (accepted h)) 0) = low_by (sight s h) (next h) in
    asks_few s (sight s h) (sight s h).served (low (sight s h) (next h)) (omega (arith, at, near_by (top (accepted h)) (least (accepted h)) (next h) w))

-- ---- the request that is answered

-- of a number that is asked for, up to the last request that is due
abbrev pub IsDueIn : Settings → Sight → ℕ → ℕ → Option Asked → Type 0
IsDueIn s v n count None = Unit {0}
IsDueIn s v n count (Some r) =
    (n ≤ r.number) × (r.number < n + count) × (asks s v v.served r.number ≡ true)
    × (asks_by s v (max (v.served r.number) (r.k + 1)) (wanted s v r.number) ≡ false)

pub record DueIn (s : Settings) (v : Sight) (n count : ℕ) (o : Option Asked) : Type 0 where
  pub fact : IsDueIn s v n count o

wider : (s : Settings) (v : Sight) (n count : ℕ) (o : Option Asked) → DueIn s v (n + 1) count o → DueIn s v n (suc count) o
wider s v n count None h = record { fact = tt }
wider s v n count (Some r) h = record { fact = (omega (arith, h.fact.0), omega (arith, h.fact.1), h.fact.2, h.fact.3) }

-- behind the last one that is due none is
undue_rests : (s : Settings) (v : Sight) (w : Wanted) (served u : ℕ) → u ≡ first_undue s v w.first served → served ≤ s.rtx_max → is_asked s v w u ≡ false
undue_rests s v w served u is small =
    let passes : ℕ → Bool = λ k. nat_lt v.time (due s w.first k) in
    let to : first_undue s v w.first served ≤ served + (s.rtx_max + 1 - served) = least_from_le passes served (s.rtx_max + 1 - served) in
    elim (nat_le u s.rtx_max) as (λ b. nat_le u s.rtx_max ≡ b → is_asked s v w u ≡ false) [
      | true ↦ λ e. let le : u ≤ s.rtx_max = grind (arith, common_steps) in
          let undue : nat_lt v.time (due s w.first u) ≡ true = subst (λ (k : ℕ). nat_lt v.time (due s w.first k) ≡ true) (sym is) (least_from_passes passes served (s.rtx_max + 1 - served) (omega (arith, is))) in
          let not_yet : nat_le (due s w.first u) v.time ≡ false = grind (arith, common_steps) in
          ap (λ (b : Bool). nat_le u s.rtx_max && b && nat_lt v.time w.limit) not_yet ∙ ap (λ (b : Bool). b && false && nat_lt v.time w.limit) e
      | false ↦ λ e. ap (λ (b : Bool). b && nat_le (due s w.first u) v.time && nat_lt v.time w.limit) e
    ] refl

due_for : (s : Settings) (v : Sight) (n count : ℕ) (o : Option Wanted) → wanted s v n ≡ o → DueIn s v n (suc count) (asked_for s v n o)
due_for s v n count None e = record { fact = tt }
due_for s v n count (Some w) e =
    split (DueIn s v n (suc count)) (is_asked s v w (v.served n)) _ _
    (λ i. let small : v.served n ≤ s.rtx_max = grind (arith, common_steps) in
    let due_now : nat_lt v.time (due s w.first (v.served n)) ≡ false = grind (arith, common_steps) in
    let after : v.served n < first_undue s v w.first (v.served n) = least_from_after (λ k. nat_lt v.time (due s w.first k)) (v.served n) (s.rtx_max + 1 - v.served n) due_now (omega arith) in
    let most : max (v.served n) (first_undue s v w.first (v.served n) - 1 + 1) ≡ first_undue s v w.first (v.served n) = omega arith in
    record {
      fact = (
        omega arith,
        omega arith,
        ap (asks_by s v (v.served n)) e ∙ i,
        ap (asks_by s v (max (v.served n) (first_undue s v w.first (v.served n) - 1 + 1))) e ∙ undue_rests s v w (v.served n) (max (v.served n) (first_undue s v w.first (v.served n) - 1 + 1)) most small,
      );
    })
    (λ i. record { fact = tt })

due_from : (s : Settings) (v : Sight) (n count : ℕ) → DueIn s v n count (asked_from s v n count)
due_from s v n zero = record { fact = tt }
due_from s v n (suc count) =
    earlier_one (DueIn s v n (suc count)) (asked_for s v n (wanted s v n)) (asked_from s v (n + 1) count)
    (due_for s v n count (wanted s v n) refl)
    (wider s v n count (asked_from s v (n + 1) count) (due_from s v (n + 1) count))

-- ---- a turn

-- what a turn asks for, and what is asked for behind it
pub record Asks (s : Settings) (v : Sight) (o : Option ℕ) (r : Turn) : Type 0 where
  pub fact : length (asked_by r) + asks_from s v (λ q. served_after (v.served q) r q) (low v (next_after o r)) ≤ asks_from s v v.served (low v o)

served_other : (f : ℕ → ℕ) (m k n : ℕ) → n ≢ m → served_after (f n) (Request m k) n ≡ f n
served_other f m k n ne = let other : (n == m) ≡ false = grind (arith, common_steps) in ap (λ (b : Bool). if b then max (f n) (k + 1) else f n) other

served_here : (f : ℕ → ℕ) (m k : ℕ) → served_after (f m) (Request m k) m ≡ max (f m) (k + 1)
served_here f m k = let here : (m == m) ≡ true = grind (arith, common_steps) in ap (λ (b : Bool). if b then max (f m) (k + 1) else f m) here

request_asks : (s : Settings) (v : Sight) (o : Option ℕ) (a : Option Asked) → DueIn s v (low v o) (v.top + 2 - low v o) a → Asks s v o (request_turn a)
request_asks s v o None h = record { fact = omega arith }
request_asks s v o (Some r) h =
    record {
      fact =
          let less : asks_from s v (λ q. served_after (v.served q) (Request r.number r.k) q) (low v o) + 1 ≤ asks_from s v v.served (low v o) =
          passing_less (asks s v v.served) (asks s v (λ q. served_after (v.served q) (Request r.number r.k) q)) r.number
          (λ n ne. ap (λ (m : ℕ). asks_by s v m (wanted s v n)) (served_other v.served r.number r.k n ne))
          (ap (λ (m : ℕ). asks_by s v m (wanted s v r.number)) (served_here v.served r.number r.k) ∙ h.fact.3)
          h.fact.2 (low v o) (v.top + 2 - low v o) h.fact.0 h.fact.1 in
          omega arith;
    }

packet_asks : (s : Settings) (v : Sight) (o : Option ℕ) (p : Option Held) → Asks s v o (packet_turn (low v o) p)
packet_asks s v o None = record { fact = omega arith }
packet_asks s v o (Some p) = record { fact = omega (arith, passing_from (asks s v v.served) (v.top + 2) (low v o) (low v o + 1) (omega arith)) }

lost_asks : (s : Settings) (v : Sight) (o : Option ℕ) (count pts duration : ℕ) → Asks s v o (Lost (low v o) count pts duration)
lost_asks s v o count pts duration = record { fact = omega (arith, passing_from (asks s v v.served) (v.top + 2) (low v o) (low v o + count) (omega arith)) }

turn_asks : (s : Settings) (v : Sight) (o : Option ℕ) → Asks s v o (turn_by s v o)
turn_asks s v o =
    by_turn (Asks s v o) s v o
    (λ _. record { fact = omega arith })
    (λ _ _. request_asks s v o (asked s v o) (due_from s v (low v o) (v.top + 2 - low v o)))
    (λ _ _ _. packet_asks s v o (v.held (low v o)))
    (λ _ _ _ _. lost_asks s v o _ _ _)
    (λ _ _ _ _ _. record { fact = omega arith })
    (λ _ _ _ _ _. record { fact = omega arith })

pub history_asks : (s : Settings) (h : History) → length (asked_by (turn s h)) + asks_left s (Turned (turn s h) ∷ h) ≤ asks_left s h
history_asks s h = (turn_asks s (sight s h) (next h)).fact

-- ---- of a buffer

-- it stands for a history, and so many more can be asked for
pub record AsksFew (b : Buffer) (numbers : List ℕ) (h : History) : Type 0 where
  pub stands : Stands b h
  pub few : length numbers + asks_left (settings_of b) h ≤ 8192

abbrev pub IsAskingFew : Buffer → List ℕ → Type 0
IsAskingFew b numbers = ∥ ((h : History) × AsksFew b numbers h) ∥₁

abbrev pub WindowLaw : Type 0
WindowLaw = (s : Settings) (h : History) → Run s h → IsWindow (top (accepted h)) (least (accepted h)) (next h)

pub begins_asking : WindowLaw → (b : Buffer) (c : Counts) (numbers : List ℕ) → numbers ≡ [] → IsCounted b c → IsAskingFew b numbers
begins_asking law b c numbers e k =
    ∥∥₁_elim k (hlevel props)
    (λ x. ∣ (x.0, record { stands = x.1.stands; few = subst (λ (xs : List ℕ). length xs + asks_left (settings_of b) x.0 ≤ 8192) (sym e) (omega (arith, few_left (settings_of b) x.0 (law (settings_of b) x.0 x.1.stands.run))) }) ∣₁)

pub goes_on_asking :
    (old new : Buffer) (r : Turn) (numbers more : List ℕ)
    → settings_of new ≡ settings_of old
    → ((h : History) → Stands old h → r ≡ turn (settings_of old) h)
    → ((h : History) → Stands old h → Stands new (Turned r ∷ h))
    → more ≡ numbers ++ asked_by r
    → IsAskingFew old numbers → IsAskingFew new more
goes_on_asking old new r numbers more same value stands e k =
    ∥∥₁_elim k (hlevel props)
    (λ x. let is : turn (settings_of old) x.0 ≡ r = sym (value x.0 x.1.stands) in
    let step : length (asked_by r) + asks_left (settings_of old) (Turned r ∷ x.0) ≤ asks_left (settings_of old) x.0 =
    subst (λ (t : Turn). length (asked_by t) + asks_left (settings_of old) (Turned t ∷ x.0) ≤ asks_left (settings_of old) x.0) is (history_asks (settings_of old) x.0) in
    ∣ (
      Turned r ∷ x.0,
      record {
        stands = stands x.0 x.1.stands;
        few = subst (λ (s : Settings). length more + asks_left s (Turned r ∷ x.0) ≤ 8192) (sym same)
            (subst (λ (xs : List ℕ). length xs + asks_left (settings_of old) (Turned r ∷ x.0) ≤ 8192) (sym e)
            (omega (arith, step, x.1.few, length-append numbers (asked_by r))));
      },
    ) ∣₁)

pub few_asked : (b : Buffer) (numbers : List ℕ) → IsAskingFew b numbers → length numbers ≤ 8192
few_asked b numbers k = ∥∥₁_elim k (hlevel props) (λ x. omega (arith, x.1.few))
