-- The peaks that are kept serve as well as all accepted packets, and there is room for them.
use Rattle.std.proofs.Common.{ℕ, zero, suc, ◌≡◌, ◌-◌, ◌≤◌, ◌<◌, ◌^◌, true, false, refl, sym, ap, ◌∙◌, List, [], ◌∷◌, ◌++◌, length, Option, None, Some, arith, max}
use Rattle.std.specs.Prelude.{⊤, is_some, nat_le, slice_index_or, unwrap_or, if◌then◌else◌}
use Rattle.std.proofs.lemmas.Grind.{common_steps}
use Rattle.jitter_model.specs.Accepted.{Taken, top, least}
use Rattle.jitter_model.specs.Times.{is_above}
use Rattle.jitter_model.specs.Requests.{or_else, first_from}
use Rattle.jitter_core.specs.declared.peaks.Peak.{Peak}
use Rattle.jitter_core.specs.Peaks.{peaks, above, above_next, with_peak, stamp_from, ArePeaksBounded, ArePeaksRising}
use Rattle.jitter_core.specs.Steps.{IsPast}
use Rattle.jitter_core.proofs.Kept.{IsBelow}
use Rattle.jitter_model.specs.Numbered.{InWindow, IsNumbered}

-- ---- what is kept after more

above_append : (k : ℕ) (ps qs : List Peak) → above k (above k ps ++ qs) ≡ above k (ps ++ qs)
above_append k [] qs = refl
above_append k (p ∷ ps) qs =
    elim (nat_le p.number k) as (λ b. (nat_le p.number k ≡ b) → above k ((if b then above k ps else p ∷ ps) ++ qs) ≡ (if b then above k (ps ++ qs) else p ∷ ps ++ qs)) [
      | true ↦ λ e. above_append k ps qs
      | false ↦ λ e. rw e refl
    ] refl

above_once : (j k : ℕ) (ps : List Peak) → j ≤ k → above k (above j ps) ≡ above k ps
above_once j k [] le = refl
above_once j k (p ∷ ps) le =
    elim (nat_le p.number j) as (λ b. (nat_le p.number j ≡ b) → above k (if b then above j ps else p ∷ ps) ≡ above k (p ∷ ps)) [
      | true ↦ λ e. let past : nat_le p.number k ≡ true = grind (arith, common_steps) in rw past (above_once j k ps le)
      | false ↦ λ e. refl
    ] refl

-- what is kept for a lower number serves a greater one
pub above_later : (o : Option ℕ) (k : ℕ) (ps : List Peak) → IsBelow o k → above k (above_next o ps) ≡ above k ps
above_later None k ps le = refl
above_later (Some j) k ps le = above_once j k ps le

next_append : (o : Option ℕ) (ps qs : List Peak) → above_next o (above_next o ps ++ qs) ≡ above_next o (ps ++ qs)
next_append None ps qs = refl
next_append (Some k) ps qs = above_append k ps qs

-- after one more packet
pub with_peak_is : (o : Option ℕ) (ps : List Taken) (p : Taken) → with_peak (top ps) o p.number p.arrival.stamp (above_next o (peaks ps)) ≡ above_next o (peaks (p ∷ ps))
with_peak_is o ps p =
    elim (is_above (top ps) p.number) as (λ b. (if b then above_next o (above_next o (peaks ps) ++ record { number = p.number; stamp = p.arrival.stamp } ∷ []) else above_next o (peaks ps)) ≡ above_next o (if b then peaks ps ++ record { number = p.number; stamp = p.arrival.stamp } ∷ [] else peaks ps)) [
      | true ↦ next_append o (peaks ps) (record { number = p.number; stamp = p.arrival.stamp } ∷ [])
      | false ↦ refl
    ]

-- ---- the first packet from a number on

stamp_above : (k m : ℕ) (ps : List Peak) → k < m → stamp_from (above k ps) m ≡ stamp_from ps m
stamp_above k m [] lt = refl
stamp_above k m (p ∷ ps) lt =
    elim (nat_le p.number k) as (λ b. (nat_le p.number k ≡ b) → stamp_from (if b then above k ps else p ∷ ps) m ≡ (if nat_le m p.number then Some p.stamp else stamp_from ps m)) [
      | true ↦ λ e. let not_it : nat_le m p.number ≡ false = grind (arith, common_steps) in rw not_it (stamp_above k m ps lt)
      | false ↦ λ e. refl
    ] refl

pub stamp_next : (o : Option ℕ) (m : ℕ) (ps : List Peak) → IsPast o m → stamp_from (above_next o ps) m ≡ stamp_from ps m
stamp_next None m ps a = refl
stamp_next (Some k) m ps a = stamp_above k m ps a

pub stamp_last : (m : ℕ) (ps : List Peak) (p : Peak) → stamp_from (ps ++ p ∷ []) m ≡ or_else (stamp_from ps m) (if nat_le m p.number then Some p.stamp else None)
stamp_last m [] p = refl
stamp_last m (q ∷ ps) p =
    elim (nat_le m q.number) as (λ b. (if b then Some q.stamp else stamp_from (ps ++ p ∷ []) m) ≡ or_else (if b then Some q.stamp else stamp_from ps m) (if nat_le m p.number then Some p.stamp else None)) [
      | true ↦ refl
      | false ↦ stamp_last m ps p
    ]

some_or : (a b : Option ℕ) → (is_some a ≡ false → is_some b ≡ true) → is_some (or_else a b) ≡ true
some_or (Some x) b h = refl
some_or None b h = h refl

-- a packet was accepted from each number up to the greatest on
up_to_rest : (ps : List Taken) (m n : ℕ) → n < m → m ≤ max n (unwrap_or (top ps) 0) → is_some (first_from ps m) ≡ true
up_to_rest [] m n lt le = absurd (omega arith)
up_to_rest (q ∷ ps) m n lt le =
    elim (nat_le m q.number) as (λ b. (nat_le m q.number ≡ b) → is_some (or_else (first_from ps m) (if b then Some q.arrival.stamp else None)) ≡ true) [
      | true ↦ λ _. some_or (first_from ps m) (Some q.arrival.stamp) (λ _. refl)
      | false ↦ λ e. let above : q.number < m = grind (arith, common_steps) in some_or (first_from ps m) None (λ none. let some : is_some (first_from ps m) ≡ true = up_to_rest ps m q.number above (omega arith) in cc)
    ] refl

up_to_top : (p : Taken) (ps : List Taken) (m : ℕ) → m ≤ unwrap_or (top (p ∷ ps)) 0 → is_some (first_from (p ∷ ps) m) ≡ true
up_to_top p ps m le =
    elim (nat_le m p.number) as (λ b. (nat_le m p.number ≡ b) → is_some (or_else (first_from ps m) (if b then Some p.arrival.stamp else None)) ≡ true) [
      | true ↦ λ _. some_or (first_from ps m) (Some p.arrival.stamp) (λ _. refl)
      | false ↦ λ e. let above : p.number < m = grind (arith, common_steps) in some_or (first_from ps m) None (λ none. let some : is_some (first_from ps m) ≡ true = up_to_rest ps m p.number above (omega arith) in cc)
    ] refl

pub or_none : (a : Option ℕ) → or_else a None ≡ a
or_none None = refl
or_none (Some x) = refl

pub or_known : (a b : Option ℕ) → is_some a ≡ true → or_else a b ≡ a
or_known (Some x) b e = refl
or_known None b e = cc

same_first : (ps : List Taken) (p : Taken) (m : ℕ) → is_above (top ps) p.number ≡ false → first_from ps m ≡ or_else (first_from ps m) (if nat_le m p.number then Some p.arrival.stamp else None)
same_first [] p m e = cc
same_first (q ∷ ps) p m e =
    elim (nat_le m p.number) as (λ b. (nat_le m p.number ≡ b) → first_from (q ∷ ps) m ≡ or_else (first_from (q ∷ ps) m) (if b then Some p.arrival.stamp else None)) [
      | true ↦ λ f. sym (or_known (first_from (q ∷ ps) m) (Some p.arrival.stamp) (up_to_top q ps m (grind (arith, common_steps))))
      | false ↦ λ _. sym (or_none (first_from (q ∷ ps) m))
    ] refl

pub stamp_is : (ps : List Taken) (m : ℕ) → stamp_from (peaks ps) m ≡ first_from ps m
stamp_is [] m = refl
stamp_is (p ∷ ps) m =
    elim (is_above (top ps) p.number) as (λ b. (is_above (top ps) p.number ≡ b) → stamp_from (if b then peaks ps ++ record { number = p.number; stamp = p.arrival.stamp } ∷ [] else peaks ps) m ≡ or_else (first_from ps m) (if nat_le m p.number then Some p.arrival.stamp else None)) [
      | true ↦ λ _. stamp_last m (peaks ps) (record { number = p.number; stamp = p.arrival.stamp }) ∙ ap (λ (x : Option ℕ). or_else x (if nat_le m p.number then Some p.arrival.stamp else None)) (stamp_is ps m)
      | false ↦ λ e. stamp_is ps m ∙ same_first ps p m e
    ] refl

-- ---- stamps

abbrev pub AreStampsSmall : List Peak → Type 0
AreStampsSmall [] = ⊤
AreStampsSmall (p ∷ ps) = (p.stamp < 2 ^ 63) × AreStampsSmall ps

small_last : (ps : List Peak) (p : Peak) → p.stamp < 2 ^ 63 → AreStampsSmall ps → AreStampsSmall (ps ++ p ∷ [])
small_last [] p lt h = (lt, tt)
small_last (q ∷ ps) p lt h = (h.0, small_last ps p lt h.1)

peaks_small : (ps : List Taken) → IsNumbered ps → AreStampsSmall (peaks ps)
peaks_small [] n = tt
peaks_small (p ∷ ps) n =
    elim (is_above (top ps) p.number) as (λ b. AreStampsSmall (if b then peaks ps ++ record { number = p.number; stamp = p.arrival.stamp } ∷ [] else peaks ps)) [
      | true ↦ small_last (peaks ps) (record { number = p.number; stamp = p.arrival.stamp }) n.1.stamp (peaks_small ps n.2)
      | false ↦ peaks_small ps n.2
    ]

small_above : (k : ℕ) (ps : List Peak) → AreStampsSmall ps → AreStampsSmall (above k ps)
small_above k [] h = tt
small_above k (p ∷ ps) h =
    elim (nat_le p.number k) as (λ b. AreStampsSmall (if b then above k ps else p ∷ ps)) [
      | true ↦ small_above k ps h.1
      | false ↦ h
    ]

small_next : (o : Option ℕ) (ps : List Peak) → AreStampsSmall ps → AreStampsSmall (above_next o ps)
small_next None ps h = h
small_next (Some k) ps h = small_above k ps h

by_place : (ps : List Peak) → AreStampsSmall ps → ArePeaksBounded ps
by_place [] h i d lt = absurd (omega arith)
by_place (p ∷ ps) h zero d lt = h.0
by_place (p ∷ ps) h (suc i) d lt = by_place ps h.1 i d (omega arith)

pub peaks_bounded : (o : Option ℕ) (ps : List Taken) → IsNumbered ps → ArePeaksBounded (above_next o (peaks ps))
peaks_bounded o ps n = by_place (above_next o (peaks ps)) (small_next o (peaks ps) (peaks_small ps n))

-- ---- how many there are

-- each is above the one before it, the first is above l, and the last is t
abbrev pub IsRising : ℕ → ℕ → List Peak → Type 0
IsRising l t [] = l ≤ t
IsRising l t (p ∷ ps) = (l < p.number) × IsRising p.number t ps

rising_to : (l t : ℕ) (ps : List Peak) → IsRising l t ps → l ≤ t
rising_to l t [] h = h
rising_to l t (p ∷ ps) h = omega (arith, h.0, rising_to p.number t ps h.1)

rising_from : (j l t : ℕ) (ps : List Peak) → j ≤ l → IsRising l t ps → IsRising j t ps
rising_from j l t [] le h = omega arith
rising_from j l t (p ∷ ps) le h = (omega (arith, h.0), h.1)

rising_higher : (l t u : ℕ) (ps : List Peak) → t ≤ u → IsRising l t ps → IsRising l u ps
rising_higher l t u [] le h = omega arith
rising_higher l t u (p ∷ ps) le h = (h.0, rising_higher p.number t u ps le h.1)

rising_last : (l t : ℕ) (ps : List Peak) (p : Peak) → t < p.number → IsRising l t ps → IsRising l p.number (ps ++ p ∷ [])
rising_last l t [] p lt h = (omega arith, omega arith)
rising_last l t (q ∷ ps) p lt h = (h.0, rising_last q.number t ps p lt h.1)

-- the peaks rise from below the least number to the greatest
rising : (ps : List Taken) → IsNumbered ps → IsRising (unwrap_or (least ps) 0 - 1) (unwrap_or (top ps) 0) (peaks ps)
rising [] n = omega arith
rising (p ∷ []) n = (omega (arith, n.0), omega arith)
rising (p ∷ q ∷ ps) n =
    let rest : IsRising (unwrap_or (least (p ∷ q ∷ ps)) 0 - 1) (unwrap_or (top (q ∷ ps)) 0) (peaks (q ∷ ps)) = rising_from (unwrap_or (least (p ∷ q ∷ ps)) 0 - 1) (unwrap_or (least (q ∷ ps)) 0 - 1) (unwrap_or (top (q ∷ ps)) 0) (peaks (q ∷ ps)) (omega arith) (rising (q ∷ ps) n.2) in
    elim (is_above (top (q ∷ ps)) p.number) as (λ b. (is_above (top (q ∷ ps)) p.number ≡ b) → IsRising (unwrap_or (least (p ∷ q ∷ ps)) 0 - 1) (unwrap_or (top (p ∷ q ∷ ps)) 0) (if b then peaks (q ∷ ps) ++ record { number = p.number; stamp = p.arrival.stamp } ∷ [] else peaks (q ∷ ps))) [
      | true ↦ λ e. rising_higher _ p.number _ (peaks (q ∷ ps) ++ record { number = p.number; stamp = p.arrival.stamp } ∷ []) (omega arith) (rising_last _ (unwrap_or (top (q ∷ ps)) 0) (peaks (q ∷ ps)) (record { number = p.number; stamp = p.arrival.stamp }) (grind (arith, common_steps)) rest)
      | false ↦ λ _. rising_higher _ _ _ (peaks (q ∷ ps)) (omega arith) rest
    ] refl

all_few : (l t : ℕ) (ps : List Peak) → IsRising l t ps → length ps ≤ t - l
all_few l t [] h = omega arith
all_few l t (p ∷ ps) h = omega (arith, h.0, all_few p.number t ps h.1, rising_to p.number t ps h.1)

above_few : (k l t : ℕ) (ps : List Peak) → IsRising l t ps → length (above k ps) ≤ t - k
above_few k l t [] h = omega arith
above_few k l t (p ∷ ps) h =
    elim (nat_le p.number k) as (λ b. (nat_le p.number k ≡ b) → length (if b then above k ps else p ∷ ps) ≤ t - k) [
      | true ↦ λ _. above_few k p.number t ps h.1
      | false ↦ λ e. let from : k < p.number = grind (arith, common_steps) in omega (arith, all_few p.number t ps h.1, rising_to p.number t ps h.1)
    ] refl

above_rising : (k l t : ℕ) (ps : List Peak) → IsRising l t ps → IsRising l t (above k ps)
above_rising k l t [] h = h
above_rising k l t (p ∷ ps) h =
    elim (nat_le p.number k) as (λ b. IsRising l t (if b then above k ps else p ∷ ps)) [
      | true ↦ rising_from l p.number t (above k ps) (omega (arith, h.0)) (above_rising k p.number t ps h.1)
      | false ↦ h
    ]

next_rising : (o : Option ℕ) (l t : ℕ) (ps : List Peak) → IsRising l t ps → IsRising l t (above_next o ps)
next_rising None l t ps h = h
next_rising (Some k) l t ps h = above_rising k l t ps h

all_over : (l t : ℕ) (ps : List Peak) → IsRising l t ps → (i : ℕ) (d : Peak) → i < length ps → l < (slice_index_or ps i d).number
all_over l t [] h i d lt = absurd (omega arith)
all_over l t (p ∷ ps) h zero d lt = h.0
all_over l t (p ∷ ps) h (suc i) d lt = omega (arith, h.0, all_over p.number t ps h.1 i d (omega arith))

rising_by_place : (l t : ℕ) (ps : List Peak) → IsRising l t ps → ArePeaksRising ps
rising_by_place l t [] h i j d lt within = absurd (omega arith)
rising_by_place l t (p ∷ ps) h i zero d lt within = absurd (omega arith)
rising_by_place l t (p ∷ ps) h zero (suc j) d lt within = all_over p.number t ps h.1 j d (omega arith)
rising_by_place l t (p ∷ ps) h (suc i) (suc j) d lt within = rising_by_place p.number t ps h.1 i j d (omega arith) (omega arith)

-- each of the kept peaks is less than those after it
pub peaks_order : (o : Option ℕ) (ps : List Taken) → IsNumbered ps → ArePeaksRising (above_next o (peaks ps))
peaks_order o ps n = rising_by_place _ _ (above_next o (peaks ps)) (next_rising o _ _ (peaks ps) (rising ps n))

-- there is room for the kept peaks of a window
pub peaks_room : (o : Option ℕ) (ps : List Taken) → IsNumbered ps → InWindow (top ps) (least ps) o → length (above_next o (peaks ps)) ≤ 8192
peaks_room None [] n w = omega arith
peaks_room (Some k) [] n w = omega arith
peaks_room None (p ∷ ps) n w = omega (arith, w.fact.0, w.fact.1, all_few _ _ (peaks (p ∷ ps)) (rising (p ∷ ps) n))
peaks_room (Some k) (p ∷ ps) n w = omega (arith, w.fact.0, above_few k _ _ (peaks (p ∷ ps)) (rising (p ∷ ps) n))

-- ---- a peak reaches each number up to the greatest

reach_by : (o : Option ℕ) (ps : List Taken) (m : ℕ) → IsPast o m → is_some (top ps) ≡ true → m ≤ unwrap_or (top ps) 0 → is_some (stamp_from (above_next o (peaks ps)) m) ≡ true
reach_by o [] m a some le = cc
reach_by o (p ∷ ps) m a some le = ap is_some (stamp_next o m (peaks (p ∷ ps)) a ∙ stamp_is (p ∷ ps) m) ∙ up_to_top p ps m le

pub peaks_reach : (o t : Option ℕ) (ps : List Taken) (qs : List Peak) → qs ≡ above_next o (peaks ps) → t ≡ top ps → (m : ℕ) → IsPast o m → is_some t ≡ true → m ≤ unwrap_or t 0 → is_some (stamp_from qs m) ≡ true
peaks_reach o t ps qs e f m a some le = rw e (reach_by o ps m a (rw (← f) some) (rw (← f) le))
