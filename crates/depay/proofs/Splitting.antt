-- The units of an aggregation packet, one after another.
use Rattle.std.proofs.Common.{◌≡◌, ◌∙◌, ◌<◌, ◌≤◌, ℕ, zero, suc, Bool, true, false, cond, List, [], ◌∷◌, ◌++◌, length, drop, map, Option, Some, None, refl, sym, ap, arith, append_assoc}
use Rattle.std.specs.Prelude.{◌==◌, ◌&&◌, option_map, unwrap_or, is_some, nat_le, nat_lt}
use Rattle.std.proofs.lemmas.List.{length-drop, append-nil}
use Rattle.depay.specs.Aggregate.{size_at, begins_unit, first_unit, after_unit, in_front, units_within, units_in, IsSplit}
use Rattle.depay.proofs.Deciding.{eq_holds, eq_fails, both, both_hold, left_fails, right_fails, lt_holds, lt_fails, le_holds, le_fails, at_most}

abbrev one_step : List ℕ → Option (List (List ℕ)) → Option (List (List ℕ))
one_step b rest = cond (length b == 0) (Some []) (cond (begins_unit b) (option_map (in_front (first_unit b)) rest) None)

shorter : (b : List ℕ) (n : ℕ) → length b ≤ suc n → length (after_unit b) ≤ n
shorter b n le = omega (arith, length-drop (size_at b) (drop 2 b), length-drop 2 b)

done_by : (x : Bool) (rest : Option (List (List ℕ))) → x ≡ true → cond x (Some []) rest ≡ Some []
done_by true rest p = refl
done_by false rest p = absurd cc

-- as many steps as there are bytes are enough
fuel : (n m : ℕ) (b : List ℕ) → length b ≤ n → length b ≤ m → units_within n b ≡ units_within m b
fuel zero zero b p q = refl
fuel zero (suc m) b p q =
    let e = eq_holds (length b) 0 (omega arith) in
    done_by (length b == 0) None e ∙ sym (done_by (length b == 0) (cond (begins_unit b) (option_map (in_front (first_unit b)) (units_within m (after_unit b))) None) e)
fuel (suc n) zero b p q =
    let e = eq_holds (length b) 0 (omega arith) in
    done_by (length b == 0) (cond (begins_unit b) (option_map (in_front (first_unit b)) (units_within n (after_unit b))) None) e ∙ sym (done_by (length b == 0) None e)
fuel (suc n) (suc m) b p q = ap (one_step b) (fuel n m (after_unit b) (shorter b n p) (shorter b m q))

unrolled : (b : List ℕ) → units_in b ≡ one_step b (units_in (after_unit b))
unrolled b =
    let more : units_in b ≡ units_within (suc (length b)) b = fuel (length b) (suc (length b)) b (omega arith) (omega arith) in
    let rest : units_within (length b) (after_unit b) ≡ units_in (after_unit b) =
    fuel (length b) (length (after_unit b)) (after_unit b) (omega (arith, length-drop (size_at b) (drop 2 b), length-drop 2 b)) (omega arith)
    in more ∙ ap (one_step b) rest

filled_by : (x y : Bool) (b : List ℕ) (rest : Option (List (List ℕ))) → x ≡ false → y ≡ true
    → cond x (Some []) (cond y (option_map (in_front (first_unit b)) rest) None) ≡ option_map (in_front (first_unit b)) rest
filled_by true y b rest p q = absurd cc
filled_by false true b rest p q = refl
filled_by false false b rest p q = absurd cc

bad_by : (x y : Bool) (b : List ℕ) (rest : Option (List (List ℕ))) → x ≡ false → y ≡ false
    → cond x (Some []) (cond y (option_map (in_front (first_unit b)) rest) None) ≡ None
bad_by true y b rest p q = absurd cc
bad_by false true b rest p q = absurd cc
bad_by false false b rest p q = refl

-- bytes that begin with a unit have two bytes
not_empty : (b : List ℕ) → begins_unit b ≡ true → (length b == 0) ≡ false
not_empty b h =
    let parts = both (nat_le 2 (length b) && nat_lt 0 (size_at b)) (nat_le (size_at b) (length (drop 2 b))) h in
    let front = both (nat_le 2 (length b)) (nat_lt 0 (size_at b)) parts.0 in
    let two : 2 ≤ length b = at_most 2 (length b) front.0 in
    let some : length b ≡ 0 → ⊥ = λ e. absurd (omega (arith, e, two)) in
    eq_fails (length b) 0 some

pub units_split : (b unit rest : List ℕ) → IsSplit b unit rest → units_in b ≡ option_map (in_front unit) (units_in rest)
units_split b unit rest s =
    let all : units_in b ≡ option_map (in_front (first_unit b)) (units_in (after_unit b)) =
    unrolled b ∙ filled_by (length b == 0) (begins_unit b) b (units_in (after_unit b)) (not_empty b s.begins) s.begins
    in
    let first : option_map (in_front (first_unit b)) (units_in (after_unit b)) ≡ option_map (in_front unit) (units_in (after_unit b)) =
    ap (λ (u : List ℕ). option_map (in_front u) (units_in (after_unit b))) (sym s.unit)
    in
    let last : option_map (in_front unit) (units_in (after_unit b)) ≡ option_map (in_front unit) (units_in rest) =
    ap (λ (r : List ℕ). option_map (in_front unit) (units_in r)) (sym s.rest)
    in all ∙ first ∙ last

pub units_bad : (b : List ℕ) → (length b == 0) ≡ false → begins_unit b ≡ false → units_in b ≡ None
units_bad b e h = unrolled b ∙ bad_by (length b == 0) (begins_unit b) b (units_in (after_unit b)) e h

pub units_end : (b : List ℕ) → (length b == 0) ≡ true → units_in b ≡ Some []
units_end b e = unrolled b ∙ done_by (length b == 0) (cond (begins_unit b) (option_map (in_front (first_unit b)) (units_in (after_unit b))) None) e

some_mapped : (u : List ℕ) (o : Option (List (List ℕ))) → is_some (option_map (in_front u) o) ≡ is_some o
some_mapped u None = refl
some_mapped u (Some us) = refl

-- ---- whether there are units

pub is_some-split : (b unit rest : List ℕ) → IsSplit b unit rest → is_some (units_in b) ≡ is_some (units_in rest)
is_some-split b unit rest s = ap is_some (units_split b unit rest s) ∙ some_mapped unit (units_in rest)

pub is_some-bad : (b : List ℕ) → (length b == 0) ≡ false → begins_unit b ≡ false → is_some (units_in b) ≡ false
is_some-bad b e h = ap is_some (units_bad b e h)

pub is_some-end : (b : List ℕ) → (length b == 0) ≡ true → is_some (units_in b) ≡ true
is_some-end b e = ap is_some (units_end b e)

-- ---- what is made of the units

abbrev pub made : {X : Type 0} → (List ℕ → X) → Option (List (List ℕ)) → List X
made f o = map f (unwrap_or o [])

made_front : {X : Type 0} (f : List ℕ → X) (u : List ℕ) (o : Option (List (List ℕ))) → is_some o ≡ true → made f (option_map (in_front u) o) ≡ f u ∷ made f o
made_front f u None e = absurd cc
made_front f u (Some us) e = refl

-- one more unit was added
pub made_more : {X : Type 0} (f : List ℕ → X) (b unit rest : List ℕ) (out more all : List X) → IsSplit b unit rest → is_some (units_in b) ≡ true
    → more ≡ out ++ f unit ∷ [] → out ++ made f (units_in b) ≡ all → more ++ made f (units_in rest) ≡ all
made_more f b unit rest out more all s some e total =
    let left : is_some (units_in rest) ≡ true = sym (is_some-split b unit rest s) ∙ some in
    let here : made f (units_in b) ≡ f unit ∷ made f (units_in rest) = ap (made f) (units_split b unit rest s) ∙ made_front f unit (units_in rest) left in
    ap (λ xs. xs ++ made f (units_in rest)) e ∙ append_assoc out (f unit ∷ []) (made f (units_in rest)) ∙ ap (λ xs. out ++ xs) (sym here) ∙ total

nothing_left : (x : Bool) (b : List ℕ) → (length b == 0) ≡ x → begins_unit b ≡ false → is_some (units_in b) ≡ true → units_in b ≡ Some []
nothing_left true b e h some = units_end b e
nothing_left false b e h some = absurd (contradiction (sym (is_some-bad b e h) ∙ some))
  where
    contradiction : false ≡ true → ⊥
    contradiction c = cc

-- all units were added
pub made_all : {X : Type 0} (f : List ℕ → X) (b : List ℕ) (out all : List X) → begins_unit b ≡ false → is_some (units_in b) ≡ true
    → out ++ made f (units_in b) ≡ all → out ≡ all
made_all f b out all h some total =
    let none : units_in b ≡ Some [] = nothing_left (length b == 0) b refl h some in
    sym (append-nil out) ∙ ap (λ o. out ++ made f o) (sym none) ∙ total

-- ---- the first unit

pub split_short : (b : List ℕ) → length b < 2 → begins_unit b ≡ false
split_short b lt =
    left_fails (nat_le 2 (length b) && nat_lt 0 (size_at b)) (nat_le (size_at b) (length (drop 2 b))) (left_fails (nat_le 2 (length b)) (nat_lt 0 (size_at b)) (le_fails 2 (length b) lt))

pub split_none : (b : List ℕ) → size_at b ≡ 0 → begins_unit b ≡ false
split_none b e =
    left_fails (nat_le 2 (length b) && nat_lt 0 (size_at b)) (nat_le (size_at b) (length (drop 2 b))) (right_fails (nat_le 2 (length b)) (nat_lt 0 (size_at b)) (lt_fails 0 (size_at b) (omega (arith, e))))

pub split_past : (b : List ℕ) → length (drop 2 b) < size_at b → begins_unit b ≡ false
split_past b lt = right_fails (nat_le 2 (length b) && nat_lt 0 (size_at b)) (nat_le (size_at b) (length (drop 2 b))) (le_fails (size_at b) (length (drop 2 b)) lt)

pub split_is : (b first behind : List ℕ) → 2 ≤ length b → 0 < size_at b → size_at b ≤ length (drop 2 b) → first ≡ first_unit b → behind ≡ after_unit b → IsSplit b first behind
split_is b first behind two some fits f r = record {
  begins = both_hold (nat_le 2 (length b) && nat_lt 0 (size_at b)) (nat_le (size_at b) (length (drop 2 b)))
      (both_hold (nat_le 2 (length b)) (nat_lt 0 (size_at b)) (le_holds 2 (length b) two) (lt_holds 0 (size_at b) some)) (le_holds (size_at b) (length (drop 2 b)) fits);
  unit = f;
  rest = r;
  shorter = let e = ap length r in omega (arith, e, length-drop (size_at b) (drop 2 b), length-drop 2 b);
}
