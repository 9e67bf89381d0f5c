-- Streams in order of first sight, one call more.
use Rattle.std.proofs.Common.{◌≡◌, ◌<◌, ◌≤◌, ◌&&◌, ℕ, zero, suc, Bool, true, false, cond, nat_eq, List, [], ◌∷◌, ◌++◌, length, take, slice_get, Option, Some, None, refl, sym, ap, subst, ◌∙◌, arith}
use Rattle.std.proofs.lemmas.Bool.{eq-eqb, eqb-true}
use Rattle.std.proofs.lemmas.Bool.Decides.{nat_tests}
use Rattle.std.proofs.lemmas.List.{take-append-le, take_all, length-append, length-take}
use Rattle.rtp_demux.specs.Lanes.{Stream, Sight, IsLane, is_stream, rate_of, seen_next, first_sights, lanes_of, IsNumberedOnce, StaysNumbered}
use Rattle.rtp_demux.specs.declared.lanes.LaneOf.{LaneOf}
use Rattle.rtp_demux.specs.declared.lanes.LaneOf.TheVariants.{New, Known, Rate, Full}

-- ---- streams

both : (p q : Bool) → (p && q) ≡ true → (p ≡ true) × (q ≡ true)
both true q e = (refl, e)
both false q e = absurd cc

pub same_stream : (a b : Stream) → is_stream a b ≡ true → a ≡ b
same_stream a b e =
    let parts = both (nat_eq a.0 b.0) (nat_eq a.1 b.1) e in
    λ i. (eqb-true a.0 b.0 parts.0 i, eqb-true a.1 b.1 parts.1 i)

pub is_itself : (a : Stream) → is_stream a a ≡ true
is_itself a = let p : nat_eq a.0 a.0 ≡ true = eq-eqb a.0 a.0 refl in let q : nat_eq a.1 a.1 ≡ true = eq-eqb a.1 a.1 refl in rw (p, q) refl

-- ---- look-ups

rate_by : (b : Bool) (v w : ℕ) (front all : Option ℕ) → (front ≡ Some w → all ≡ Some w) → cond b (Some v) front ≡ Some w → cond b (Some v) all ≡ Some w
rate_by true v w front all rest e = e
rate_by false v w front all rest e = rest e

rate_in_front : (es : List Sight) (n : ℕ) (q : Stream) (v : ℕ) → rate_of (take n es) q ≡ Some v → rate_of es q ≡ Some v
rate_in_front [] zero q v e = absurd cc
rate_in_front [] (suc n) q v e = absurd cc
rate_in_front (e ∷ es) zero q v at = absurd cc
rate_in_front (e ∷ es) (suc n) q v at = rate_by (is_stream q e.0) e.1 v (rate_of (take n es) q) (rate_of es q) (rate_in_front es n q v) at

-- what is at a place is found
found_by : (b : Bool) (v : ℕ) (rest : Option ℕ) → (rest ≡ None → ⊥) → cond b (Some v) rest ≡ None → ⊥
found_by true v rest h e = cc
found_by false v rest h e = h e

pub is_found : (es : List Sight) (i : ℕ) (q : Stream) (v : ℕ) → slice_get es i ≡ Some (q, v) → rate_of es q ≡ None → ⊥
is_found [] i q v at none = cc
is_found (e ∷ es) zero q v at none =
    let here : e ≡ (q, v) = cc in
    let key : is_stream q e.0 ≡ true = subst (λ (x : Sight). is_stream q x.0 ≡ true) (sym here) (is_itself q) in
    let some : Some e.1 ≡ None = sym (ap (λ (b : Bool). cond b (Some e.1) (rate_of es q)) key) ∙ none in
    cc
is_found (e ∷ es) (suc i) q v at none = found_by (is_stream q e.0) e.1 (rate_of es q) (is_found es i q v at) none

-- ---- lanes, one call more

pub lanes_known : (before : List Sight) (s : Sight) (rate : ℕ) → rate_of (lanes_of before) s.0 ≡ Some rate → lanes_of (s ∷ before) ≡ lanes_of before
lanes_known before s rate e = ap (λ (o : Option ℕ). take 64 (seen_next (first_sights before) s o)) (rate_in_front (first_sights before) 64 s.0 rate e)

few : (xs : List Sight) → length (take 64 xs) < 64 → length xs < 64
few xs lt = omega (arith, length-take 64 xs)

pub lanes_new : (before : List Sight) (s : Sight) → rate_of (lanes_of before) s.0 ≡ None → length (lanes_of before) < 64 → lanes_of (s ∷ before) ≡ lanes_of before ++ s ∷ []
lanes_new before s none lt =
    let xs = first_sights before in
    let small : length xs < 64 = few xs lt in
    let all : take 64 xs ≡ xs = take_all 64 xs (omega arith) in
    let new : rate_of xs s.0 ≡ None = ap (λ (es : List Sight). rate_of es s.0) (sym all) ∙ none in
    ap (λ (o : Option ℕ). take 64 (seen_next xs s o)) new ∙ take_all 64 (xs ++ s ∷ []) (omega (arith, length-append xs (s ∷ []))) ∙ ap (λ (es : List Sight). es ++ s ∷ []) (sym all)

full_by : (xs : List Sight) (s : Sight) (o : Option ℕ) → 64 ≤ length xs → take 64 (seen_next xs s o) ≡ take 64 xs
full_by xs s None le = take-append-le 64 xs (s ∷ []) le
full_by xs s (Some rate) le = refl

pub lanes_full : (before : List Sight) (s : Sight) → 64 ≤ length (lanes_of before) → lanes_of (s ∷ before) ≡ lanes_of before
lanes_full before s le = full_by (first_sights before) s (rate_of (first_sights before) s.0) (omega (arith, length-take 64 (first_sights before)))

pub stands_known : (lanes calls : List Sight) (s : Sight) (i kept : ℕ) → slice_get lanes i ≡ Some (s.0, kept) → lanes ≡ lanes_of calls → lanes ≡ lanes_of (s ∷ calls)
stands_known lanes calls s i kept at stands = stands ∙ sym (by (rate_of (lanes_of calls) s.0) refl)
  where
    by : (o : Option ℕ) → rate_of (lanes_of calls) s.0 ≡ o → lanes_of (s ∷ calls) ≡ lanes_of calls
    by None e = absurd (is_found (lanes_of calls) i s.0 kept (ap (λ (es : List Sight). slice_get es i) (sym stands) ∙ at) e)
    by (Some rate) e = lanes_known calls s rate e

pub stands_full : (lanes calls : List Sight) (s : Sight) → 64 ≤ length lanes → lanes ≡ lanes_of calls → lanes ≡ lanes_of (s ∷ calls)
stands_full lanes calls s le stands = stands ∙ sym (lanes_full calls s (omega (arith, ap length stands)))

pub stands_new : (old new calls : List Sight) (s : Sight) → rate_of old s.0 ≡ None → length old < 64 → new ≡ old ++ s ∷ [] → old ≡ lanes_of calls → new ≡ lanes_of (s ∷ calls)
stands_new old new calls s none lt e stands =
    e ∙ ap (λ (es : List Sight). es ++ s ∷ []) stands ∙ sym (lanes_new calls s (ap (λ (es : List Sight). rate_of es s.0) (sym stands) ∙ none) (omega (arith, ap length stands)))

-- an answer that makes no lane changes none
pub stands_old : (lanes calls : List Sight) (s : Sight) (answer : LaneOf) → IsLane lanes s answer → ((lane : ℕ) → answer ≡ New lane → ⊥) → lanes ≡ lanes_of calls → lanes ≡ lanes_of (s ∷ calls)
stands_old lanes calls s (New lane) told old stands = absurd (old lane refl)
stands_old lanes calls s (Known lane) told old stands = stands_known lanes calls s lane s.1 told stands
stands_old lanes calls s (Rate lane kept) told old stands = stands_known lanes calls s lane kept told.0 stands
stands_old lanes calls s Full told old stands = stands_full lanes calls s told.1 stands

-- ---- no stream stands twice

abbrev Distinct : List Sight → Type 0
Distinct [] = Unit {0}
Distinct (e ∷ es) = (rate_of es e.0 ≡ None) × Distinct es

none_by : (b : Bool) (v : ℕ) (rest more : Option ℕ) → (rest ≡ None → more ≡ None) → cond b (Some v) rest ≡ None → cond b (Some v) more ≡ None
none_by true v rest more h e = e
none_by false v rest more h e = h e

-- a stream that is not there, and is not the new one, is not there with the new one
rate_push : (es : List Sight) (s : Sight) (q : Stream) → is_stream q s.0 ≡ false → rate_of es q ≡ None → rate_of (es ++ s ∷ []) q ≡ None
rate_push [] s q other none = rw other refl
rate_push (e ∷ es) s q other none = none_by (is_stream q e.0) e.1 (rate_of es q) (rate_of (es ++ s ∷ []) q) (rate_push es s q other) none

other_by : (b : Bool) (v : ℕ) (rest : Option ℕ) → cond b (Some v) rest ≡ None → (b ≡ false) × (rest ≡ None)
other_by true v rest e = absurd cc
other_by false v rest e = (refl, e)

eq_turned : (a b : ℕ) → nat_eq a b ≡ nat_eq b a
eq_turned a b = grind (arith, nat_tests)

stream_turned : (a b : Stream) → is_stream a b ≡ false → is_stream b a ≡ false
stream_turned a b e = rw (eq_turned b.0 a.0, eq_turned b.1 a.1) e

distinct_push : (es : List Sight) (s : Sight) → Distinct es → rate_of es s.0 ≡ None → Distinct (es ++ s ∷ [])
distinct_push [] s d none = (refl, tt)
distinct_push (e ∷ es) s d none =
    let parts = other_by (is_stream s.0 e.0) e.1 (rate_of es s.0) none in
    (rate_push es s e.0 (stream_turned s.0 e.0 parts.0) d.0, distinct_push es s d.1 parts.1)

distinct_next : (es : List Sight) (s : Sight) (o : Option ℕ) → rate_of es s.0 ≡ o → Distinct es → Distinct (seen_next es s o)
distinct_next es s None none d = distinct_push es s d none
distinct_next es s (Some rate) some d = d

distinct_sights : (calls : List Sight) → Distinct (first_sights calls)
distinct_sights [] = tt
distinct_sights (s ∷ before) = distinct_next (first_sights before) s (rate_of (first_sights before) s.0) refl (distinct_sights before)

none_in_front : (es : List Sight) (n : ℕ) (q : Stream) → rate_of es q ≡ None → rate_of (take n es) q ≡ None
none_in_front [] zero q e = refl
none_in_front [] (suc n) q e = refl
none_in_front (e ∷ es) zero q none = refl
none_in_front (e ∷ es) (suc n) q none = none_by (is_stream q e.0) e.1 (rate_of es q) (rate_of (take n es) q) (none_in_front es n q) none

distinct_front : (es : List Sight) (n : ℕ) → Distinct es → Distinct (take n es)
distinct_front [] zero d = tt
distinct_front [] (suc n) d = tt
distinct_front (e ∷ es) zero d = tt
distinct_front (e ∷ es) (suc n) d = (none_in_front es n e.0 d.0, distinct_front es n d.1)

none_here : (e : Sight) (es : List Sight) (j : ℕ) (q : Stream) (p v : ℕ) → rate_of es e.0 ≡ None → e ≡ (q, p) → slice_get es j ≡ Some (q, v) → ⊥
none_here e es j q p v none here at = is_found es j q v at (subst (λ (x : Sight). rate_of es x.0 ≡ None) here none)

once : (es : List Sight) (i j : ℕ) (q : Stream) (p v : ℕ) → Distinct es → slice_get es i ≡ Some (q, p) → slice_get es j ≡ Some (q, v) → i ≡ j
once [] i j q p v d a b = absurd cc
once (e ∷ es) zero zero q p v d a b = refl
once (e ∷ es) zero (suc j) q p v d a b = absurd (none_here e es j q p v d.0 (cc) b)
once (e ∷ es) (suc i) zero q p v d a b = absurd (none_here e es i q v p d.0 (cc) a)
once (e ∷ es) (suc i) (suc j) q p v d a b = let rest : i ≡ j = once es i j q p v d.1 a b in omega arith

pub numbered_once : IsNumberedOnce
numbered_once = λ calls i j stream p q a b. once (lanes_of calls) i j stream p q (distinct_front (first_sights calls) 64 (distinct_sights calls)) a b

stays_at : (es more : List Sight) (n i : ℕ) (s : Sight) → slice_get (take n es) i ≡ Some s → slice_get (take n (es ++ more)) i ≡ Some s
stays_at [] more zero i s at = absurd cc
stays_at [] more (suc n) i s at = absurd cc
stays_at (e ∷ es) more zero i s at = absurd cc
stays_at (e ∷ es) more (suc n) zero s at = at
stays_at (e ∷ es) more (suc n) (suc i) s at = stays_at es more n i s at

stays_by : (es : List Sight) (c : Sight) (o : Option ℕ) (i : ℕ) (s : Sight) → slice_get (take 64 es) i ≡ Some s → slice_get (take 64 (seen_next es c o)) i ≡ Some s
stays_by es c None i s at = stays_at es (c ∷ []) 64 i s at
stays_by es c (Some rate) i s at = at

pub stays_numbered : StaysNumbered
stays_numbered = λ calls call lane s at. stays_by (first_sights calls) call (rate_of (first_sights calls) call.0) lane s at

-- a place that has a lane lies among the lanes
pub is_within : (es : List Sight) (i : ℕ) (s : Sight) → slice_get es i ≡ Some s → i < length es
is_within [] i s at = absurd cc
is_within (e ∷ es) zero s at = omega arith
is_within (e ∷ es) (suc i) s at = let rest : i < length es = is_within es i s at in omega arith
