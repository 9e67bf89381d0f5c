-- Tests, and lists whose elements pass a test against those before them.
use Rattle.std.proofs.Common.{◌≡◌, ℕ, List, [], ◌∷◌, ◌++◌, Bool, true, false, ◌&&◌, ◌||◌, not, Option, Some, None, sym, ◌∙◌, ap, refl, arith, append_assoc, append-nil, nat_eq}
use Rattle.std.specs.List.{list_all, list_any, filter_map, cons_option}
use Rattle.std.specs.Prelude.{option_and_then}
use Rattle.std.proofs.lemmas.List.Folds.{list_any-append}
use Rattle.script_lang.specs.Contents.{each_behind}
use Rattle.sdp_profile.specs.Media.{holds}

pub both_true : (a b : Bool) → (a && b) ≡ true → (a ≡ true) × (b ≡ true)
both_true true b h = (refl, h)
both_true false b h = absurd (cc)

pub true_both : (a b : Bool) → a ≡ true → b ≡ true → (a && b) ≡ true
true_both true b h k = k
true_both false b h k = absurd (cc)

pub none_true : (a b : Bool) → (a || b) ≡ false → (a ≡ false) × (b ≡ false)
none_true true b h = absurd (cc)
none_true false b h = (refl, h)

pub is_not : (b : Bool) → b ≡ false → not b ≡ true
is_not true h = absurd (cc)
is_not false h = refl

pub not_is : (b : Bool) → not b ≡ true → b ≡ false
not_is true h = absurd (cc)
not_is false h = refl

pub is_not_true : (b : Bool) → not b ≡ false → b ≡ true
is_not_true true h = refl
is_not_true false h = absurd (cc)

pub nat_eq_sym : (a b : ℕ) → nat_eq a b ≡ nat_eq b a
nat_eq_sym a b = grind (arith)

pub nat_eq_same : (a : ℕ) → nat_eq a a ≡ true
nat_eq_same a = grind (arith)

pub nat_eq_is : (a b : ℕ) → nat_eq a b ≡ true → a ≡ b
nat_eq_is a b h = grind (arith)

true_or : (a b : Bool) → b ≡ true → (a || b) ≡ true
true_or true b h = refl
true_or false b h = h

-- ---- any element

pub any_more : {A : Type 0} (p : A → Bool) (xs ys : List A) → list_any p xs ≡ true → list_any p (xs ++ ys) ≡ true
any_more p xs ys h = list_any-append p xs ys ∙ ap (λ b. b || list_any p ys) h

pub any_behind : {A : Type 0} (p : A → Bool) (xs : List A) (x : A) → p x ≡ true → list_any p (xs ++ x ∷ []) ≡ true
any_behind p [] x h = ap (λ b. b || false) h
any_behind p (y ∷ xs) x h = true_or (p y) (list_any p (xs ++ x ∷ [])) (any_behind p xs x h)

pub none_both : {A : Type 0} (p : A → Bool) (xs ys : List A) → list_any p xs ≡ false → list_any p ys ≡ false → list_any p (xs ++ ys) ≡ false
none_both p xs ys h k = list_any-append p xs ys ∙ ap (λ b. b || list_any p ys) h ∙ k

-- a test that no element passes, and one that follows from it
pub none_weaker : {A : Type 0} (p q : A → Bool) → ((x : A) → q x ≡ false → p x ≡ false) → (xs : List A) → list_any q xs ≡ false → list_any p xs ≡ false
none_weaker p q follows [] h = refl
none_weaker p q follows (x ∷ xs) h =
    let e = none_true (q x) (list_any q xs) h in
    ap (λ b. b || list_any p xs) (follows x e.0) ∙ none_weaker p q follows xs e.1

-- no element passes, since each passes another test
pub none_by_all : {A : Type 0} (p q : A → Bool) → ((x : A) → q x ≡ true → p x ≡ false) → (xs : List A) → list_all q xs ≡ true → list_any p xs ≡ false
none_by_all p q follows [] h = refl
none_by_all p q follows (x ∷ xs) h =
    let e = both_true (q x) (list_all q xs) h in
    ap (λ b. b || list_any p xs) (follows x e.0) ∙ none_by_all p q follows xs e.1

-- ---- all elements

pub all_both : {A : Type 0} (p : A → Bool) (xs ys : List A) → list_all p xs ≡ true → list_all p ys ≡ true → list_all p (xs ++ ys) ≡ true
all_both p [] ys h k = k
all_both p (x ∷ xs) ys h k = let e = both_true (p x) (list_all p xs) h in true_both (p x) _ e.0 (all_both p xs ys e.1 k)

pub all_weaker : {A : Type 0} (p q : A → Bool) → ((x : A) → p x ≡ true → q x ≡ true) → (xs : List A) → list_all p xs ≡ true → list_all q xs ≡ true
all_weaker p q follows [] h = refl
all_weaker p q follows (x ∷ xs) h = let e = both_true (p x) (list_all p xs) h in true_both (q x) _ (follows x e.0) (all_weaker p q follows xs e.1)

all_cons : {A : Type 0} (q : A → Bool) (o : Option A) (ys : List A) → ((y : A) → o ≡ Some y → q y ≡ true) → list_all q ys ≡ true → list_all q (cons_option o ys) ≡ true
all_cons q None ys each h = h
all_cons q (Some y) ys each h = true_both (q y) _ (each y refl) h

-- what a list gives passes a test, since each element that gives something does
pub all_given : {A B : Type 0} (p : A → Bool) (q : B → Bool) (g : A → Option B) → ((x : A) (y : B) → p x ≡ true → g x ≡ Some y → q y ≡ true)
    → (xs : List A) → list_all p xs ≡ true → list_all q (filter_map g xs) ≡ true
all_given p q g each [] h = refl
all_given p q g each (x ∷ xs) h =
    let e = both_true (p x) (list_all p xs) h in
    all_cons q (g x) (filter_map g xs) (λ y is. each x y e.0 is) (all_given p q g each xs e.1)

-- ---- each element against those before it

pub each_behind-append : {A : Type 0} (test : List A → A → Bool) (before xs ys : List A) → each_behind test before xs ≡ true → each_behind test (before ++ xs) ys ≡ true
    → each_behind test before (xs ++ ys) ≡ true
each_behind-append test before [] ys h k = rw append-nil at k
each_behind-append test before (x ∷ xs) ys h k =
    let e = both_true (test before x) (each_behind test (before ++ x ∷ []) xs) h in
    true_both (test before x) _ e.0 (each_behind-append test (before ++ x ∷ []) xs ys e.1 (rw append_assoc k))

-- a test that follows from it and from a test of the element alone
pub each_behind-weaker : {A : Type 0} (p : List A → A → Bool) (q : A → Bool) (r : List A → A → Bool)
    → ((before : List A) (x : A) → p before x ≡ true → q x ≡ true → r before x ≡ true)
    → (before xs : List A) → each_behind p before xs ≡ true → list_all q xs ≡ true → each_behind r before xs ≡ true
each_behind-weaker p q r follows before [] h k = refl
each_behind-weaker p q r follows before (x ∷ xs) h k =
    let e = both_true (p before x) (each_behind p (before ++ x ∷ []) xs) h in
    let d = both_true (q x) (list_all q xs) k in
    true_both (r before x) _ (follows before x e.0 d.0) (each_behind-weaker p q r follows (before ++ x ∷ []) xs e.1 d.1)

pub all_true : {A : Type 0} (xs : List A) → list_all (λ (x : A). true) xs ≡ true
all_true [] = refl
all_true (x ∷ xs) = all_true xs

-- ---- elements by their keys

given_given : {A B : Type 0} (h : A → Option B) (o : Option A) (ys : List A) → filter_map h (cons_option o ys) ≡ cons_option (option_and_then h o) (filter_map h ys)
given_given h None ys = refl
given_given h (Some y) ys = refl

-- what is given by what is given
pub given_twice : {X A B : Type 0} (h : A → Option B) (g : X → Option A) (xs : List X) → filter_map h (filter_map g xs) ≡ filter_map (λ x. option_and_then h (g x)) xs
given_twice h g [] = refl
given_twice h g (x ∷ xs) = given_given h (g x) (filter_map g xs) ∙ ap (cons_option (option_and_then h (g x))) (given_twice h g xs)

-- a test of what an element gives, if it gives anything
abbrev pub passes_if_some : {A : Type 0} → (A → Bool) → Option A → Bool
passes_if_some q None = true
passes_if_some q (Some y) = q y

passes_back : {A : Type 0} (q : A → Bool) (o : Option A) (ys : List A) → list_all q (cons_option o ys) ≡ true → (passes_if_some q o ≡ true) × (list_all q ys ≡ true)
passes_back q None ys h = (refl, h)
passes_back q (Some y) ys h = both_true (q y) (list_all q ys) h

pub all_back : {X A : Type 0} (q : A → Bool) (g : X → Option A) (xs : List X) → list_all q (filter_map g xs) ≡ true → list_all (λ x. passes_if_some q (g x)) xs ≡ true
all_back q g [] h = refl
all_back q g (x ∷ xs) h = let e = passes_back q (g x) (filter_map g xs) h in true_both (passes_if_some q (g x)) _ e.0 (all_back q g xs e.1)

seen_apart : (seen : List ℕ) (t k : ℕ) → holds (seen ++ t ∷ []) k ≡ false → (holds seen k ≡ false) × (nat_eq t k ≡ false)
seen_apart seen t k none =
    let d = none_true (holds seen k) (nat_eq t k || false) (sym (list_any-append (λ s. nat_eq s k) seen (t ∷ [])) ∙ none) in
    (d.0, (none_true (nat_eq t k) false d.1).0)

-- no type before it is the same
abbrev pub is_new_type : List ℕ → ℕ → Bool
is_new_type before type = not (holds before type)

module _ {X : Type 0} (g : ℕ → Option X) (key : X → ℕ) (named : (t : ℕ) (x : X) → g t ≡ Some x → key x ≡ t) where
  none_first : (t k : ℕ) (o : Option X) (xs : List X) → g t ≡ o → nat_eq t k ≡ false → list_any (λ x. nat_eq (key x) k) xs ≡ false → list_any (λ x. nat_eq (key x) k) (cons_option o xs) ≡ false
  none_first t k None xs is other h = h
  none_first t k (Some x) xs is other h = ap (λ n. nat_eq n k || list_any (λ y. nat_eq (key y) k) xs) (named t x is) ∙ ap (λ b. b || list_any (λ y. nat_eq (key y) k) xs) other ∙ h

  -- a type that gives nothing is no given element's
  pub none_keyed : (k : ℕ) → g k ≡ None → (types : List ℕ) → list_any (λ x. nat_eq (key x) k) (filter_map g types) ≡ false
  none_keyed k none [] = refl
  none_keyed k none (t ∷ types) =
      elim (nat_eq t k) as (λ b. nat_eq t k ≡ b → list_any (λ x. nat_eq (key x) k) (cons_option (g t) (filter_map g types)) ≡ false) [
        | false ↦ λ other. none_first t k (g t) (filter_map g types) refl other (none_keyed k none types)
        | true ↦ λ same. ap (λ o. list_any (λ x. nat_eq (key x) k) (cons_option o (filter_map g types))) (ap g (nat_eq_is t k same) ∙ none) ∙ none_keyed k none types
      ] refl

  module _ (test : List X → X → Bool) (ok : ℕ → Bool) (earlier : List X)
      (passes : (t : ℕ) (before : List X) (x : X) → ok t ≡ true → g t ≡ Some x → list_any (λ y. nat_eq (key y) t) before ≡ false → test (earlier ++ before) x ≡ true) where
    -- what new types give passes a test against what stands before it
    pub each_given : (seen : List ℕ) (before : List X) → ((k : ℕ) → holds seen k ≡ false → list_any (λ y. nat_eq (key y) k) before ≡ false)
        → (types : List ℕ) → each_behind is_new_type seen types ≡ true → list_all ok types ≡ true → each_behind test (earlier ++ before) (filter_map g types) ≡ true
    each_given seen before apart [] h fine = refl
    each_given seen before apart (t ∷ types) h fine =
        let e = both_true (is_new_type seen t) (each_behind is_new_type (seen ++ t ∷ []) types) h in
        let o = both_true (ok t) (list_all ok types) fine in
        elim (g t) as (λ r. g t ≡ r → each_behind test (earlier ++ before) (cons_option r (filter_map g types)) ≡ true) [
          | None ↦ λ is. each_given (seen ++ t ∷ []) before (λ k none. apart k (seen_apart seen t k none).0) types e.1 o.1
          | Some x ↦ λ is. true_both (test (earlier ++ before) x) _
              (passes t before x o.0 is (apart t (not_is _ e.0)))
              (rw append_assoc (each_given (seen ++ t ∷ []) (before ++ x ∷ [])
              (λ k none. none_both (λ y. nat_eq (key y) k) before (x ∷ []) (apart k (seen_apart seen t k none).0)
              (ap (λ n. nat_eq n k || false) (named t x is) ∙ ap (λ b. b || false) (seen_apart seen t k none).1))
              types e.1 o.1))
        ] refl
