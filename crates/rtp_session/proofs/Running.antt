-- Packets that wait, after a change at one SSRC.
use Rattle.std.proofs.Common.{◌≡◌, ◌<◌, ◌||◌, ℕ, ◌+◌, Bool, true, false, cond, List, [], ◌∷◌, ◌++◌, length, get_or, take, Option, Some, None, refl, sym, ap, ◌∙◌, eqb-true, arith}
use Rattle.std.specs.Prelude.{Vec, nat_eq}
use Rattle.std.specs.List.{list_any}
use Rattle.std.specs.Map.{lookup}
use Rattle.std.specs.declared.alloc.Global.{Global}
use Rattle.std.proofs.lemmas.Bool.Decides.{nat_tests}
use Rattle.std.proofs.lemmas.List.{take_more}
use Rattle.std.proofs.lemmas.List.Folds.{list_any-append}
use Rattle.front_model.specs.Probation.{Kept}
use Rattle.rtp_session.specs.Runs.{run_in, run_of}

abbrev Entries : Type 0
Entries = List (ℕ × Vec Kept Global)

run_if : (b : Bool) (x y : Option (Vec Kept Global)) → run_in (cond b x y) ≡ cond b (run_in x) (run_in y)
run_if true x y = refl
run_if false x y = refl

-- what an update of a map at one key leaves of the runs
pub updated : (old new : Entries) (ssrc q : ℕ) (w : Option (Vec Kept Global)) (ks : List Kept) → lookup (nat_eq q) new ≡ cond (nat_eq ssrc q) w (lookup (nat_eq q) old) → run_in w ≡ ks
    → run_of new q ≡ cond (nat_eq ssrc q) ks (run_of old q)
updated old new ssrc q w ks e is =
    ap run_in e ∙ run_if (nat_eq ssrc q) w (lookup (nat_eq q) old) ∙ ap (λ (l : List Kept). cond (nat_eq ssrc q) l (run_of old q)) is

turned : (b : Bool) (x y : ℕ) → nat_eq x y ≡ b → nat_eq y x ≡ b
turned true x y e = grind (arith, nat_tests)
turned false x y e = grind (arith, nat_tests)

gone_by : (a b : Bool) (ks : List Kept) → cond b [] (cond a [] ks) ≡ cond (a || b) [] ks
gone_by true true ks = refl
gone_by true false ks = refl
gone_by false true ks = refl
gone_by false false ks = refl

last_only : (b : Bool) → (b || false) ≡ b
last_only true = refl
last_only false = refl

-- one more of the SSRCs whose packets go
pub one_gone : (first old new : Entries) (ssrcs : List ℕ) (i x q : ℕ) → i < length ssrcs → x ≡ get_or ssrcs i 0 → lookup (nat_eq q) new ≡ cond (nat_eq x q) None (lookup (nat_eq q) old)
    → run_of old q ≡ cond (list_any (nat_eq q) (take i ssrcs)) [] (run_of first q) → run_of new q ≡ cond (list_any (nat_eq q) (take (i + 1) ssrcs)) [] (run_of first q)
one_gone first old new ssrcs i x q lt at e before =
    let more : list_any (nat_eq q) (take (i + 1) ssrcs) ≡ (list_any (nat_eq q) (take i ssrcs) || nat_eq q x) =
    ap (list_any (nat_eq q)) (take_more ssrcs i 0 lt ∙ ap (λ (y : ℕ). take i ssrcs ++ y ∷ []) (sym at))
    ∙ list_any-append (nat_eq q) (take i ssrcs) (x ∷ [])
    ∙ ap (λ (b : Bool). list_any (nat_eq q) (take i ssrcs) || b) (last_only (nat_eq q x))
    in
    updated old new x q None [] e refl
    ∙ (λ j. cond (sym (turned (nat_eq x q) x q refl) j) [] (before j))
    ∙ gone_by (list_any (nat_eq q) (take i ssrcs)) (nat_eq q x) (run_of first q)
    ∙ ap (λ (b : Bool). cond b [] (run_of first q)) (sym more)

-- ---- the SSRCs of a set

known_by : (b c : Bool) (ks : List ℕ) (x q : ℕ) → list_any (nat_eq x) ks ≡ b → nat_eq q x ≡ c → list_any (nat_eq q) (cond b ks (ks ++ x ∷ [])) ≡ (list_any (nat_eq q) ks || c)
known_by true true ks x q there same = ap (λ (y : ℕ). list_any (nat_eq y) ks) (eqb-true q x same) ∙ there ∙ sym (yes_or (list_any (nat_eq q) ks))
  where
    yes_or : (b : Bool) → (b || true) ≡ true
    yes_or true = refl
    yes_or false = refl
known_by true false ks x q there same = sym (last_only (list_any (nat_eq q) ks))
known_by false c ks x q there same =
    list_any-append (nat_eq q) ks (x ∷ []) ∙ ap (λ (b : Bool). list_any (nat_eq q) ks || b) (last_only (nat_eq q x) ∙ same)

-- one more that is inserted
pub one_known : (old new xs : List ℕ) (i x q : ℕ) → i < length xs → x ≡ get_or xs i 0 → new ≡ cond (list_any (nat_eq x) old) old (old ++ x ∷ [])
    → list_any (nat_eq q) old ≡ list_any (nat_eq q) (take i xs) → list_any (nat_eq q) new ≡ list_any (nat_eq q) (take (i + 1) xs)
one_known old new xs i x q lt at e before =
    ap (list_any (nat_eq q)) e
    ∙ known_by (list_any (nat_eq x) old) (nat_eq q x) old x q refl refl
    ∙ ap (λ (b : Bool). b || nat_eq q x) before
    ∙ ap (λ (b : Bool). list_any (nat_eq q) (take i xs) || b) (sym (last_only (nat_eq q x)))
    ∙ sym (list_any-append (nat_eq q) (take i xs) (x ∷ []))
    ∙ ap (list_any (nat_eq q)) (sym (take_more xs i 0 lt ∙ ap (λ (y : ℕ). take i xs ++ y ∷ []) (sym at)))
