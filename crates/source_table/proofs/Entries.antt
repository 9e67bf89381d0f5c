-- Entries by their keys, where one is put.
use Rattle.std.proofs.Common.{◌≡◌, ℕ, Bool, true, false, cond, nat_eq, List, [], ◌∷◌, Option, Some, None, refl, ap, subst, ◌∙◌, arith}
use Rattle.std.specs.Map.{lookup}
use Rattle.std.proofs.lemmas.Bool.{eq-eqb, eqb-true}
use Rattle.std.proofs.lemmas.Bool.Decides.{nat_tests}
use Rattle.indexmap.specs.IndexMap.{insert_entry}

turned : (a b : ℕ) → nat_eq a b ≡ false → nat_eq b a ≡ false
turned a b e = grind (arith, nat_tests)

module _ {X : Type 0} where
  abbrev pub at : ℕ → List (ℕ × X) → Option X
  at k es = lookup (nat_eq k) es

  -- no key stands twice
  abbrev pub Distinct : List (ℕ × X) → Type 0
  Distinct [] = Unit {0}
  Distinct (e ∷ es) = (at e.0 es ≡ None) × Distinct es

  -- ---- a source that is put

  same_by : (b : Bool) (k x : ℕ) (v w : X) (es ins : List (ℕ × X)) → nat_eq k x ≡ b → at k ins ≡ Some v → at k (cond b ((x, v) ∷ es) ((x, w) ∷ ins)) ≡ Some v
  same_by true k x v w es ins e rest = rw e refl
  same_by false k x v w es ins e rest = rw e rest

  pub at_same : (es : List (ℕ × X)) (k : ℕ) (v : X) → at k (insert_entry nat_eq es k v) ≡ Some v
  at_same [] k v = let e : nat_eq k k ≡ true = eq-eqb k k refl in rw e refl
  at_same (e ∷ es) k v = same_by (nat_eq k e.0) k e.0 v e.1 es (insert_entry nat_eq es k v) refl (at_same es k v)

  other_by : (b : Bool) (j k x : ℕ) (v w : X) (es ins : List (ℕ × X)) → nat_eq k x ≡ b → nat_eq j k ≡ false → at j ins ≡ at j es → at j (cond b ((x, v) ∷ es) ((x, w) ∷ ins)) ≡ at j ((x, w) ∷ es)
  other_by true j k x v w es ins e other rest =
      let same : k ≡ x = eqb-true k x e in
      let apart : nat_eq j x ≡ false = subst (λ (y : ℕ). nat_eq j y ≡ false) same other in
      rw apart refl
  other_by false j k x v w es ins e other rest = ap (λ (o : Option X). cond (nat_eq j x) (Some w) o) rest

  pub at_other : (es : List (ℕ × X)) (j k : ℕ) (v : X) → nat_eq j k ≡ false → at j (insert_entry nat_eq es k v) ≡ at j es
  at_other [] j k v other = rw other refl
  at_other (e ∷ es) j k v other = other_by (nat_eq k e.0) j k e.0 v e.1 es (insert_entry nat_eq es k v) refl other (at_other es j k v other)

  distinct_by : (b : Bool) (k x : ℕ) (v w : X) (es ins : List (ℕ × X)) → nat_eq k x ≡ b → at x es ≡ None → Distinct es → Distinct ins → (nat_eq x k ≡ false → at x ins ≡ at x es) → Distinct (cond b ((x, v) ∷ es) ((x, w) ∷ ins))
  distinct_by true k x v w es ins e none d rest h = (none, d)
  distinct_by false k x v w es ins e none d rest h = (h (turned k x e) ∙ none, rest)

  pub distinct_put : (es : List (ℕ × X)) (k : ℕ) (v : X) → Distinct es → Distinct (insert_entry nat_eq es k v)
  distinct_put [] k v d = (refl, tt)
  distinct_put (e ∷ es) k v d = distinct_by (nat_eq k e.0) k e.0 v e.1 es (insert_entry nat_eq es k v) refl d.0 d.1 (distinct_put es k v d.1) (at_other es e.0 k v)

  -- what is kept once this source is put
  pub put_at : (es : List (ℕ × X)) (k x : ℕ) (v : X) (b : Bool) → nat_eq k x ≡ b → at k (insert_entry nat_eq es x v) ≡ cond b (Some v) (at k es)
  put_at es k x v true e = let same : k ≡ x = eqb-true k x e in subst (λ (y : ℕ). at k (insert_entry nat_eq es y v) ≡ Some v) same (at_same es k v)
  put_at es k x v false e = at_other es k x v e
