-- Which packet the place of a number tells, and the places once one more packet was added.
use Rattle.std.proofs.Common.{◌≡◌, ◌≢◌, ◌<◌, ◌≤◌, ◌⊎◌, ◌∙◌, ℕ, zero, suc, ◌+◌, ◌-◌, ◌%◌, min}
use Rattle.std.proofs.Common.{Bool, true, false, cond, List, [], ◌∷◌, length, take, Some, None}
use Rattle.std.proofs.Common.{nat_eq, slice_get, slice_index_or, slice_set, refl, sym, ap}
use Rattle.std.proofs.Common.{inl, inr, arith, length-set, length-take, get_or-set_other}
use Rattle.std.proofs.lemmas.Bool.{eq-eqb, eqb-true}
use Rattle.std.proofs.lemmas.Bool.Decides.{eqb_tells}
use Rattle.std.proofs.lemmas.Grind.{get_or-set_at}
use Rattle.std.proofs.lemmas.Option.{slice_get_past}
use Rattle.circular_buffer.specs.Buffer.{Buffer}
use Rattle.rtp_wire.specs.Packet.{Packet}
use Rattle.rtx.specs.Places.{place_of, IsIndexed}
use Rattle.rtx.specs.Sending.{latest_in, pushed}

-- ---- the packet at a place

found_by : (b : Bool) (p : Packet) (ps : List Packet) (seq n : ℕ)
    → latest_in ps seq ≡ slice_get ps n
    → cond b (Some p) (latest_in ps seq) ≡ slice_get (p ∷ ps) (cond b 0 (suc n))
found_by true p ps seq n e = refl
found_by false p ps seq n e = e

found_at : (ps : List Packet) (seq : ℕ) → latest_in ps seq ≡ slice_get ps (place_of ps seq)
found_at [] seq = refl
found_at (p ∷ ps) seq =
    found_by (nat_eq p.seq seq) p ps seq (place_of ps seq) (found_at ps seq)

has_by : (b : Bool) (q : Packet) (ps : List Packet) (seq n : ℕ) (p : Packet)
    → nat_eq q.seq seq ≡ b → (slice_get ps n ≡ Some p → p.seq ≡ seq)
    → slice_get (q ∷ ps) (cond b 0 (suc n)) ≡ Some p → p.seq ≡ seq
has_by true q ps seq n p is rest e =
    let same : q ≡ p = cc in ap (λ (x : Packet). x.seq) (sym same) ∙ eqb-true q.seq seq is
has_by false q ps seq n p is rest e = rest e

found_has : (ps : List Packet) (seq : ℕ) (p : Packet) → slice_get ps (place_of ps seq) ≡ Some p
    → p.seq ≡ seq
found_has [] seq p e = absurd cc
found_has (q ∷ ps) seq p e =
    has_by (nat_eq q.seq seq) q ps seq (place_of ps seq) p refl (found_has ps seq p) e

within_first : (b : Bool) (n m : ℕ) → b ≡ true → cond b 0 (suc n) < suc m
within_first true n m is = omega arith
within_first false n m is = absurd cc

within_by : (b : Bool) (n m : ℕ) → n < m → cond b 0 (suc n) < suc m
within_by true n m lt = omega arith
within_by false n m lt = omega arith

-- where some packet has the number, its place is within them
place_within : (ps : List Packet) (seq i : ℕ) (p : Packet) → slice_get ps i ≡ Some p
    → p.seq ≡ seq → place_of ps seq < length ps
place_within [] seq zero p e has = absurd cc
place_within [] seq (suc i) p e has = absurd cc
place_within (q ∷ ps) seq zero p e has =
    let same : q ≡ p = cc in
    let is : q.seq ≡ seq = ap (λ (x : Packet). x.seq) same ∙ has in
    within_first (nat_eq q.seq seq) (place_of ps seq) (length ps) (eq-eqb q.seq seq is)
place_within (q ∷ ps) seq (suc i) p e has =
    within_by (nat_eq q.seq seq) (place_of ps seq) (length ps) (place_within ps seq i p e has)

take_by : (b : Bool) (x y m k : ℕ) → (x < m → (x ≡ y) × (y < k)) → cond b 0 (suc x) < suc m
    → (cond b 0 (suc x) ≡ cond b 0 (suc y)) × (cond b 0 (suc y) < suc k)
take_by true x y m k h lt = (refl, omega arith)
take_by false x y m k h lt =
    let r = h (omega arith) in let le = r.1 in (ap suc r.0, omega arith)

-- among the first n a number has the place that it has among all
place_take : (n : ℕ) (ps : List Packet) (seq : ℕ)
    → place_of (take n ps) seq < length (take n ps)
    → (place_of (take n ps) seq ≡ place_of ps seq) × (place_of ps seq < length ps)
place_take zero ps seq lt = absurd (omega arith)
place_take (suc n) [] seq lt = absurd (omega arith)
place_take (suc n) (p ∷ ps) seq lt =
    take_by (nat_eq p.seq seq) (place_of (take n ps) seq) (place_of ps seq)
    (length (take n ps)) (length ps) (place_take n ps seq) lt

-- ---- one packet more

counted_by : (b : Bool) (xs : List ℕ) (n seq i m added : ℕ) → nat_eq n seq ≡ b
    → n < length xs → (i < m → (slice_index_or xs seq 0 + i) % 65536 ≡ added)
    → cond b 0 (suc i) < suc m
    → (slice_index_or (slice_set xs n ((added + 1) % 65536)) seq 0 + cond b 0 (suc i)) % 65536
    ≡ (added + 1) % 65536
counted_by true xs n seq i m added is lt h within =
    let e = get_or-set_at xs n seq ((added + 1) % 65536) 0 (sym (eqb-true n seq is)) lt in
    ap (λ x. (x + 0) % 65536) e ∙ omega arith
counted_by false xs n seq i m added is lt h within =
    let other : seq ≢ n = λ same. let here = eq-eqb n seq (sym same) in absurd cc in
    let e = get_or-set_other xs n seq ((added + 1) % 65536) 0 other in
    let before = h (omega arith) in
    ap (λ x. (x + suc i) % 65536) e ∙ omega (arith, before)

pub indexed_pushed : (b : Buffer Packet) (added : ℕ) (xs : List ℕ) (p : Packet)
    → IsIndexed b added xs → p.seq < 65536
    → IsIndexed (pushed p b) ((added + 1) % 65536) (slice_set xs p.seq ((added + 1) % 65536))
indexed_pushed b added xs p h lt =
    let room = h.room in
    let long = h.long in
    let ys = slice_set xs p.seq ((added + 1) % 65536) in
    record {
      few = omega (arith, length-take b.capacity (p ∷ b.items));
      room = h.room;
      long = length-set xs p.seq ((added + 1) % 65536) ∙ long;
      counted = λ seq within.
          let kept = place_take b.capacity (p ∷ b.items) seq within in
          ap (λ i. (slice_index_or ys seq 0 + i) % 65536) kept.0
          ∙ counted_by (nat_eq p.seq seq) xs p.seq seq (place_of b.items seq) (length b.items)
          added refl (omega arith) (h.counted seq) kept.1;
    }

-- ---- what the places tell

le_or_lt : (a b : ℕ) → (a ≤ b) ⊎ (b < a)
le_or_lt a b = elim (eqb_tells (min a b) a) [
  | inl equal ↦ let e = equal.1 in inl (omega arith)
  | inr unequal ↦ let ne = unequal.1 in inr (omega arith)
]

module _ (b : Buffer Packet) (added : ℕ) (xs : List ℕ) (seq later : ℕ) (h : IsIndexed b added xs)
    (sum : (slice_index_or xs seq 0 + later) % 65536 ≡ added) (small : later < 65536) where
  place_is : place_of b.items seq < length b.items → later ≡ place_of b.items seq
  place_is within = let few = h.few in let counted = h.counted seq within in omega arith

  latest_is : place_of b.items seq < length b.items
      → latest_in b.items seq ≡ slice_get b.items later
  latest_is within = found_at b.items seq ∙ ap (slice_get b.items) (sym (place_is within))

  none_there : length b.items ≤ place_of b.items seq → latest_in b.items seq ≡ None
  none_there past =
      found_at b.items seq ∙ slice_get_past b.items (place_of b.items seq) past

  pub absent : slice_get b.items later ≡ None → latest_in b.items seq ≡ None
  absent none = elim (le_or_lt (length b.items) (place_of b.items seq)) [
    | inl past ↦ none_there past
    | inr within ↦ latest_is within ∙ none
  ]

  pub another : (p : Packet) → slice_get b.items later ≡ Some p → p.seq ≢ seq
      → latest_in b.items seq ≡ None
  another p there other = elim (le_or_lt (length b.items) (place_of b.items seq)) [
    | inl past ↦ none_there past
    | inr within ↦
        let e = ap (slice_get b.items) (sym (place_is within)) in
        absurd (other (found_has b.items seq p (e ∙ there)))
  ]

  pub present : (p : Packet) → slice_get b.items later ≡ Some p → p.seq ≡ seq
      → latest_in b.items seq ≡ Some p
  present p there has = latest_is (place_within b.items seq later p there has) ∙ there
