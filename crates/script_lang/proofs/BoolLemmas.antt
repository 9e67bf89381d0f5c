-- Tests, and lists whose elements pass a test against those before them.
use Rattle.std.proofs.Common.{◌≡◌, ℕ, List, [], ◌∷◌, ◌++◌, map, Bool, true, false, ◌&&◌, ◌||◌, not, cond, Option, Some, None, Result, Ok, Err, sym, ap, refl, arith, append_assoc, append-nil, nat_eq}
use Rattle.std.specs.List.{list_all, list_any}
use Rattle.std.proofs.lemmas.Option.{none-some}
use Rattle.script_lang.specs.Contents.{each_behind}
use Rattle.script_lang.specs.Causes.{◌>>=◌}

pub both_true : (a b : Bool) → (a && b) ≡ true → (a ≡ true) × (b ≡ true)
both_true true b h = (refl, h)
both_true false b h = absurd (cc)

pub true_both : (a b : Bool) → a ≡ true → b ≡ true → (a && b) ≡ true
true_both true b h k = k
true_both false b h k = absurd (cc)

pub none_true : (a b : Bool) → (a || b) ≡ false → (a ≡ false) × (b ≡ false)
none_true true b h = absurd (cc)
none_true false b h = (refl, h)

pub is_not_false : (b : Bool) → not b ≡ false → b ≡ true
is_not_false true h = refl
is_not_false false h = absurd (cc)

pub is_not : (b : Bool) → b ≡ false → not b ≡ true
is_not true h = absurd (cc)
is_not false h = refl

pub not_is : (b : Bool) → not b ≡ true → b ≡ false
not_is true h = absurd (cc)
not_is false h = refl

-- a chain of tests that answers nothing
pub cond_none : {A : Type 0} (b : Bool) (x : A) (rest : Option A) → cond b (Some x) rest ≡ None → (b ≡ false) × (rest ≡ None)
cond_none true x rest h = absurd (none-some x (sym h))
cond_none false x rest h = (refl, h)

-- the steps of what was read
pub bind_ok : {C A B : Type 0} (r : Result A C) (f : A → Result B C) (y : B) → (r >>= f) ≡ Ok y → (x : A) × (r ≡ Ok x) × (f x ≡ Ok y)
bind_ok (Ok x) f y h = (x, refl, h)
bind_ok (Err e) f y h = absurd (cc)

pub cond_ok : {C A : Type 0} (b : Bool) (x y : A) (e : C) → cond b (Ok x) (Err e) ≡ Ok y → (b ≡ true) × (x ≡ y)
cond_ok true x y e h = (refl, cc)
cond_ok false x y e h = absurd (cc)

pub nat_eq_sym : (a b : ℕ) → nat_eq a b ≡ nat_eq b a
nat_eq_sym a b = grind (arith)

pub any_map : {A B : Type 0} (p : B → Bool) (f : A → B) (xs : List A) → list_any p (map f xs) ≡ list_any (λ x. p (f x)) xs
any_map p f [] = refl
any_map p f (x ∷ xs) = ap (λ b. p (f x) || b) (any_map p f xs)

-- a test that no element passes
pub all_not : {A : Type 0} (p : A → Bool) (xs : List A) → list_any p xs ≡ false → list_all (λ x. not (p x)) xs ≡ true
all_not p [] h = refl
all_not p (x ∷ xs) h = let e = none_true (p x) (list_any p xs) h in true_both (not (p x)) _ (is_not (p x) e.0) (all_not p xs e.1)

-- ---- each element against those before it

pub each_behind-snoc : {A : Type 0} (test : List A → A → Bool) (before xs : List A) (x : A) → each_behind test before xs ≡ true → test (before ++ xs) x ≡ true
    → each_behind test before (xs ++ x ∷ []) ≡ true
each_behind-snoc test before [] x h k = true_both (test before x) true (rw append-nil at k) refl
each_behind-snoc test before (y ∷ ys) x h k =
    let e = both_true (test before y) (each_behind test (before ++ y ∷ []) ys) h in
    true_both (test before y) _ e.0 (each_behind-snoc test (before ++ y ∷ []) ys x e.1 (rw append_assoc k))

-- a test that follows from it and from a test of the element alone
pub each_behind-weaker : {A : Type 0} (p : List A → A → Bool) (q : A → Bool) (r : List A → A → Bool)
    → ((before : List A) (x : A) → p before x ≡ true → q x ≡ true → r before x ≡ true)
    → (before xs : List A) → each_behind p before xs ≡ true → list_all q xs ≡ true → each_behind r before xs ≡ true
each_behind-weaker p q r follows before [] h k = refl
each_behind-weaker p q r follows before (x ∷ xs) h k =
    let e = both_true (p before x) (each_behind p (before ++ x ∷ []) xs) h in
    let d = both_true (q x) (list_all q xs) k in
    true_both (r before x) _ (follows before x e.0 d.0) (each_behind-weaker p q r follows (before ++ x ∷ []) xs e.1 d.1)

pub all_true : {A : Type 0} (xs : List A) → list_all (λ (x : A). true) xs ≡ true
all_true [] = refl
all_true (x ∷ xs) = all_true xs
