-- The greedy entries name exactly the numbers that they were made of.
use Rattle.std.proofs.Common.{◌≡◌, ℕ, zero, suc, ◌+◌, ◌%◌, ◌^◌, ◌≤◌, ◌<◌, Bool, true, false, cond, ltb, List, [], ◌∷◌, ◌++◌, length, get_or, drop, Option, Some, None, ◌⊎◌, inl, inr, refl, sym, ap, subst, ◌∙◌, arith, append_assoc}
use Rattle.std.specs.Prelude.{◌↔◌, IfOk, Result, Ok, Err}
use Rattle.std.specs.Global.{Vec}
use Rattle.rtp_units.specs.declared.memory.OutOfMemory.{OutOfMemory}
use Rattle.std.proofs.lemmas.Bool.{cases_eq, ltb-true}
use Rattle.std.proofs.lemmas.Nat.Bits.{bit_at_or, bit_at-pow_same, bit_at-pow_other, bit_at-zero, bit_at-lt}
use Rattle.std.proofs.lemmas.List.{drop_more, drop_all}
use Rattle.rtcp_wire.specs.declared.packet.Nack.{Nack}
use Rattle.rtcp_wire.specs.Nacking.{distance, with_bit, join_at, join, opens, greedy_then, greedy_behind, greedy, Names, NamedBy, Among}

pub record Same (A B : Type 0) : Type 0 where
  pub to : A → B
  pub from : B → A

-- ---- one entry

opened : (n x : ℕ) → Same (Names (opens n) x) (x ≡ n)
opened n x = record {
  to = λ h. elim h [ inl e ↦ e | inr b ↦ let no : 0 ≡ 1 = sym (bit_at-zero b.0) ∙ b.2 in absurd cc ];
  from = λ e. inl e;
}

bit_added : (e : Nack) (i n x : ℕ) → i < 16 → n ≡ (e.pid + i + 1) % 65536 → Same (Names (with_bit e i) x) (Names e x ⊎ (x ≡ n))
bit_added e i n x small at = record {
  to = λ h. elim h [
    | inl p ↦ inl (inl p)
    | inr b ↦
        let or = bit_at_or e.blp (2 ^ i) b.0 in
        elim (cases_eq b.0 i) [
          | inl same ↦ inr (b.3 ∙ rw same (sym at))
          | inr other ↦
              let none = bit_at-pow_other i b.0 other in
              inl (inr (b.0, b.1, omega (arith, or, none, b.2), b.3))
        ]
  ];
  from = λ h. elim h [
    | inl old ↦ elim old [
      | inl p ↦ inl p
      | inr b ↦
          let or = bit_at_or e.blp (2 ^ i) b.0 in
          inr (b.0, b.1, omega (arith, or, b.2, bit_at-lt (2 ^ i) b.0), b.3)
    ]
    | inr new ↦
        let or = bit_at_or e.blp (2 ^ i) i in
        inr (i, small, omega (arith, or, bit_at-pow_same i, bit_at-lt e.blp i), new ∙ at)
  ];
}

nothing_added : (e : Nack) (n x : ℕ) → n ≡ e.pid → Same (Names e x) (Names e x ⊎ (x ≡ n))
nothing_added e n x at = record {
  to = λ h. inl h;
  from = λ h. elim h [ inl old ↦ old | inr new ↦ inl (new ∙ at) ];
}

joined_bit : (e j : Nack) (b : Bool) (i n x : ℕ) → ltb i 16 ≡ b → suc i ≡ distance e.pid n → e.pid < 65536 → n < 65536 → cond b (Some (with_bit e i)) None ≡ Some j → (j.pid ≡ e.pid) × Same (Names j x) (Names e x ⊎ (x ≡ n))
joined_bit e j true i n x lt d small fits h =
    let same : with_bit e i ≡ j = cc in
    let at : n ≡ (e.pid + i + 1) % 65536 = omega (arith, d) in
    subst (λ (k : Nack). (k.pid ≡ e.pid) × Same (Names k x) (Names e x ⊎ (x ≡ n))) same (refl, bit_added e i n x (ltb-true i 16 lt) at)
joined_bit e j false i n x lt d small fits h = absurd cc

-- the entry that a number joined
joined_at : (e j : Nack) (d n x : ℕ) → d ≡ distance e.pid n → e.pid < 65536 → n < 65536 → join_at e d ≡ Some j → (j.pid ≡ e.pid) × Same (Names j x) (Names e x ⊎ (x ≡ n))
joined_at e j zero n x d small fits h =
    let same : e ≡ j = cc in
    let zero_off : n ≡ e.pid = omega (arith, d) in
    subst (λ (k : Nack). (k.pid ≡ e.pid) × Same (Names k x) (Names e x ⊎ (x ≡ n))) same (refl, nothing_added e n x zero_off)
joined_at e j (suc i) n x d small fits h = joined_bit e j (ltb i 16) i n x refl d small fits h

-- ---- the entries

says_then : (go : Nack → List Nack) (A : Type 0) (x : ℕ) → ((e : Nack) → e.pid < 65536 → Same (NamedBy (go e) x) (Names e x ⊎ A))
    → (e : Nack) (n : ℕ) → e.pid < 65536 → n < 65536 → (o : Option Nack) → join e n ≡ o → Same (NamedBy (greedy_then go e n o) x) (Names e x ⊎ ((x ≡ n) ⊎ A))
says_then go A x rest e n small fits None h =
    let r = rest (opens n) fits in
    let o = opened n x in
    record {
      to = λ q. elim q [ inl a ↦ inl a | inr b ↦ elim (r.to b) [ inl c ↦ inr (inl (o.to c)) | inr d ↦ inr (inr d) ] ];
      from = λ q. elim q [ inl a ↦ inl a | inr b ↦ elim b [ inl c ↦ inr (r.from (inl (o.from c))) | inr d ↦ inr (r.from (inr d)) ] ];
    }
says_then go A x rest e n small fits (Some j) h =
    let k = joined_at e j (distance e.pid n) n x refl small fits h in
    let r = rest j (omega (arith, k.0)) in
    record {
      to = λ q. elim (r.to q) [ inl a ↦ elim (k.1.to a) [ inl b ↦ inl b | inr c ↦ inr (inl c) ] | inr d ↦ inr (inr d) ];
      from = λ q. elim q [ inl a ↦ r.from (inl (k.1.from (inl a))) | inr b ↦ elim b [ inl c ↦ r.from (inl (k.1.from (inr c))) | inr d ↦ r.from (inr d) ] ];
    }

says : (ns : List ℕ) (e : Nack) (x : ℕ) → e.pid < 65536 → ((k : ℕ) → get_or ns k 0 < 65536) → Same (NamedBy (greedy_behind e ns) x) (Names e x ⊎ Among ns x)
unfolding greedy_behind
says [] e x small fits = record { to = λ h. h; from = λ h. h }
says (n ∷ ns) e x small fits =
    says_then (λ f. greedy_behind f ns) (Among ns x) x (λ f s. says ns f x s (λ k. fits (suc k))) e n small (fits 0) (join e n) refl

pub named_by : (ns : List ℕ) (x : ℕ) → ((k : ℕ) → get_or ns k 0 < 65536) → Same (NamedBy (greedy ns) x) (Among ns x)
named_by [] x fits = record { to = λ h. h; from = λ h. h }
named_by (n ∷ ns) x fits =
    let s = says ns (opens n) x (fits 0) (λ k. fits (suc k)) in
    let o = opened n x in
    record {
      to = λ q. elim (s.to q) [ inl a ↦ inl (o.to a) | inr b ↦ inr b ];
      from = λ q. elim q [ inl a ↦ s.from (inl (o.from a)) | inr b ↦ s.from (inr b) ];
    }

-- ---- steps of the loop

pub stays : (list : List Nack) (e j : Nack) (ns : List ℕ) (i : ℕ) (total : List Nack) → i < length ns → join e (get_or ns i 0) ≡ Some j → list ++ greedy_behind e (drop i ns) ≡ total → list ++ greedy_behind j (drop (i + 1) ns) ≡ total
unfolding greedy_behind
stays list e j ns i total lt h so_far =
    let rest : drop i ns ≡ get_or ns i 0 ∷ drop (i + 1) ns = drop_more ns i 0 lt in
    let one : greedy_behind e (drop i ns) ≡ greedy_behind j (drop (i + 1) ns) = rw (rest, h) refl in
    sym (ap (λ (es : List Nack). list ++ es) one) ∙ so_far

pub opens_new : (list : List Nack) (e : Nack) (ns : List ℕ) (i : ℕ) (total : List Nack) → i < length ns → join e (get_or ns i 0) ≡ None → list ++ greedy_behind e (drop i ns) ≡ total
    → (list ++ e ∷ []) ++ greedy_behind (opens (get_or ns i 0)) (drop (i + 1) ns) ≡ total
unfolding greedy_behind
opens_new list e ns i total lt h so_far =
    let rest : drop i ns ≡ get_or ns i 0 ∷ drop (i + 1) ns = drop_more ns i 0 lt in
    let one : greedy_behind e (drop i ns) ≡ e ∷ greedy_behind (opens (get_or ns i 0)) (drop (i + 1) ns) = rw (rest, h) refl in
    append_assoc list (e ∷ []) (greedy_behind (opens (get_or ns i 0)) (drop (i + 1) ns)) ∙ sym (ap (λ (es : List Nack). list ++ es) one) ∙ so_far

pub ends : (list : List Nack) (e : Nack) (ns : List ℕ) (i : ℕ) (total : List Nack) → length ns ≤ i → list ++ greedy_behind e (drop i ns) ≡ total → list ++ e ∷ [] ≡ total
unfolding greedy_behind
ends list e ns i total le so_far =
    let rest : drop i ns ≡ [] = drop_all i ns le in
    let one : greedy_behind e (drop i ns) ≡ e ∷ [] = rw rest refl in
    sym (ap (λ (es : List Nack). list ++ es) one) ∙ so_far

pub named_result : (r : Result (Vec Nack) OutOfMemory) (ns : List ℕ) → ((k : ℕ) → get_or ns k 0 < 65536) → IfOk r (λ list. list.items ≡ greedy ns) → IfOk r (λ list. (x : ℕ) → (NamedBy list.items x) ↔ (Among ns x))
named_result (Ok list) ns fits e = λ x. let s = named_by ns x fits in subst (λ (es : List Nack). (NamedBy es x) ↔ (Among ns x)) (sym e) (s.to, s.from)
named_result (Err e) ns fits h = tt

-- ---- no more entries than numbers

count_then : (go : Nack → List Nack) (n : ℕ) → ((e : Nack) → length (go e) ≤ suc n) → (e : Nack) (x : ℕ) (o : Option Nack) → length (greedy_then go e x o) ≤ suc (suc n)
count_then go n rest e x None = omega (arith, rest (opens x))
count_then go n rest e x (Some j) = omega (arith, rest j)

count_behind : (ns : List ℕ) (e : Nack) → length (greedy_behind e ns) ≤ suc (length ns)
unfolding greedy_behind
count_behind [] e = omega arith
count_behind (n ∷ ns) e = count_then (λ f. greedy_behind f ns) (length ns) (λ f. count_behind ns f) e n (join e n)

count_of : (ns : List ℕ) → length (greedy ns) ≤ length ns
count_of [] = omega arith
count_of (n ∷ ns) = count_behind ns (opens n)

pub counted : (r : Result (Vec Nack) OutOfMemory) (ns : List ℕ) → IfOk r (λ list. list.items ≡ greedy ns) → IfOk r (λ list. length list.items ≤ length ns)
counted (Ok list) ns e = subst (λ (es : List Nack). length es ≤ length ns) (sym e) (count_of ns)
counted (Err e) ns h = tt
