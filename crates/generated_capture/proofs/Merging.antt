-- Two lists of deliveries as one: which one gives the next.
use Rattle.std.proofs.Common.{◌≡◌, ℕ, Bool, true, false, cond, List, [], ◌∷◌, length, suc, ◌+◌, Option, refl, sym, ap, ◌∙◌, arith}
use Rattle.generated_capture.specs.declared.delivery.Delivery.{Delivery}
use Rattle.generated_capture.specs.Deliveries.{is_ahead, merged_from, merged}
use Rattle.generated_capture.specs.Series.{head_of, tail_of, precedes}

pick_true : {A : Type 0} (b : Bool) (x y : A) → b ≡ true → cond b x y ≡ x
pick_true true x y e = refl
pick_true false x y e = absurd cc

pick_false : {A : Type 0} (b : Bool) (x y : A) → b ≡ false → cond b x y ≡ y
pick_false true x y e = absurd cc
pick_false false x y e = refl

second : (x y : Delivery) (xs ys : List Delivery) → is_ahead y x ≡ true
    → merged (x ∷ xs) (y ∷ ys) ≡ y ∷ merged (x ∷ xs) ys
second x y xs ys e =
    pick_true (is_ahead y x) (y ∷ merged_from x (merged xs) ys) (x ∷ merged xs (y ∷ ys)) e

first : (x y : Delivery) (xs ys : List Delivery) → is_ahead y x ≡ false
    → merged (x ∷ xs) (y ∷ ys) ≡ x ∷ merged xs (y ∷ ys)
first x y xs ys e =
    pick_false (is_ahead y x) (y ∷ merged_from x (merged xs) ys) (x ∷ merged xs (y ∷ ys)) e

pub head_second : (xs ys : List Delivery) → precedes (head_of ys) (head_of xs) ≡ true
    → head_of (merged xs ys) ≡ head_of ys
head_second xs [] e = absurd cc
head_second [] (y ∷ ys) e = refl
head_second (x ∷ xs) (y ∷ ys) e = ap (λ (l : List Delivery). head_of l) (second x y xs ys e)

pub tail_second : (xs ys : List Delivery) → precedes (head_of ys) (head_of xs) ≡ true
    → tail_of (merged xs ys) ≡ merged xs (tail_of ys)
tail_second xs [] e = absurd cc
tail_second [] (y ∷ ys) e = refl
tail_second (x ∷ xs) (y ∷ ys) e = ap (λ (l : List Delivery). tail_of l) (second x y xs ys e)

pub head_first : (xs ys : List Delivery) → precedes (head_of ys) (head_of xs) ≡ false
    → head_of (merged xs ys) ≡ head_of xs
head_first [] [] e = refl
head_first [] (y ∷ ys) e = absurd cc
head_first (x ∷ xs) [] e = refl
head_first (x ∷ xs) (y ∷ ys) e = ap (λ (l : List Delivery). head_of l) (first x y xs ys e)

pub tail_first : (xs ys : List Delivery) → precedes (head_of ys) (head_of xs) ≡ false
    → tail_of (merged xs ys) ≡ merged (tail_of xs) ys
tail_first [] [] e = refl
tail_first [] (y ∷ ys) e = absurd cc
tail_first (x ∷ xs) [] e = refl
tail_first (x ∷ xs) (y ∷ ys) e = ap (λ (l : List Delivery). tail_of l) (first x y xs ys e)

-- ---- by what the two lists have first

pub goes_second : (xs ys : List Delivery) (b : Bool) (x y : Option Delivery)
    → x ≡ head_of xs → y ≡ head_of ys → b ≡ precedes y x → b ≡ true
    → precedes (head_of ys) (head_of xs) ≡ true
goes_second xs ys b x y p q is e =
    ap (λ (o : Option Delivery). precedes o (head_of xs)) (sym q)
    ∙ ap (λ (o : Option Delivery). precedes y o) (sym p) ∙ sym is ∙ e

pub goes_first : (xs ys : List Delivery) (b : Bool) (x y : Option Delivery)
    → x ≡ head_of xs → y ≡ head_of ys → b ≡ precedes y x → b ≡ false
    → precedes (head_of ys) (head_of xs) ≡ false
goes_first xs ys b x y p q is e =
    ap (λ (o : Option Delivery). precedes o (head_of xs)) (sym q)
    ∙ ap (λ (o : Option Delivery). precedes y o) (sym p) ∙ sym is ∙ e

-- ---- how many there are

length_from : (x : Delivery) (xs ys : List Delivery)
    → ((zs : List Delivery) → length (merged xs zs) ≡ length xs + length zs)
    → length (merged_from x (merged xs) ys) ≡ suc (length xs) + length ys
length_from x xs [] h = let k = h [] in omega (arith, k)
length_from x xs (y ∷ ys) h =
    let here : length (x ∷ merged xs (y ∷ ys)) ≡ suc (length xs) + suc (length ys) =
    let k = h (y ∷ ys) in omega (arith, k) in
    let there : length (y ∷ merged_from x (merged xs) ys) ≡ suc (length xs) + suc (length ys) =
    let k = length_from x xs ys h in omega (arith, k) in
    by (is_ahead y x) (y ∷ merged_from x (merged xs) ys) (x ∷ merged xs (y ∷ ys)) there here
  where
    by : (b : Bool) (p q : List Delivery) {n : ℕ} → length p ≡ n → length q ≡ n
        → length (cond b p q) ≡ n
    by true p q e f = e
    by false p q e f = f

pub length-merged : (xs ys : List Delivery) → length (merged xs ys) ≡ length xs + length ys
length-merged [] ys = omega arith
length-merged (x ∷ xs) ys = length_from x xs ys (length-merged xs)
