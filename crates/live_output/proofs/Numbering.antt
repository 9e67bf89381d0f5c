-- What the elements of a list give, by their numbers.
use Rattle.std.proofs.Common.{◌≡◌, ℕ, ◌+◌, ◌<◌, List, [], ◌∷◌, ◌++◌, length, take, drop, get_or}
use Rattle.std.proofs.Common.{refl, sym, ap, ◌∙◌, add-one, append_assoc, arith}
use Rattle.std.specs.List.{flat_map}
use Rattle.std.proofs.Math.Seq.{take-suc}
use Rattle.std.proofs.lemmas.List.{append-nil, length-take, take-append-drop}
use Rattle.live_output.specs.Numbered.{flat_map_from}

-- the elements of two lists
pub from_append : {A B : Type 0} (f : ℕ → A → List B) (n : ℕ) (xs ys : List A)
    → flat_map_from f n (xs ++ ys) ≡ flat_map_from f n xs ++ flat_map_from f (n + length xs) ys
from_append f n [] ys = ap (λ (m : ℕ). flat_map_from f m ys) (omega arith)
from_append {A = A} {B = B} f n (x ∷ xs) ys =
    let far : n + 1 + length xs ≡ n + length (x ∷ xs) = omega arith in
    ap (λ (l : List B). f n x ++ l)
    (from_append f (n + 1) xs ys
    ∙ ap (λ (m : ℕ). flat_map_from f (n + 1) xs ++ flat_map_from f m ys) far)
    ∙ sym (append_assoc (f n x) (flat_map_from f (n + 1) xs)
    (flat_map_from f (n + length (x ∷ xs)) ys))

-- one element more
pub from_more : {A B : Type 0} (f : ℕ → A → List B) (xs : List A) (i : ℕ) (x : A)
    → i < length xs → x ≡ get_or xs i x
    → flat_map_from f 0 (take (i + 1) xs) ≡ flat_map_from f 0 (take i xs) ++ f i x
from_more {A = A} {B = B} f xs i x lt is =
    let at : 0 + length (take i xs) ≡ i = omega (arith, lt, length-take i xs) in
    ap (λ (n : ℕ). flat_map_from f 0 (take n xs)) (add-one i)
    ∙ ap (flat_map_from f 0) (take-suc xs i x lt)
    ∙ from_append f 0 (take i xs) (get_or xs i x ∷ [])
    ∙ ap (λ (l : List B). flat_map_from f 0 (take i xs) ++ l)
    (append-nil (f (0 + length (take i xs)) (get_or xs i x))
    ∙ ap (λ (m : ℕ). f m (get_or xs i x)) at ∙ ap (f i) (sym is))

-- all elements: those before one, this one, and the others
pub from_parts : {A B : Type 0} (f : ℕ → A → List B) (xs : List A) (i : ℕ) (x : A)
    → i < length xs → x ≡ get_or xs i x
    → flat_map_from f 0 xs
    ≡ (flat_map_from f 0 (take i xs) ++ f i x)
    ++ flat_map_from f (0 + length (take (i + 1) xs)) (drop (i + 1) xs)
from_parts {A = A} {B = B} f xs i x lt is =
    let rest : List B = flat_map_from f (0 + length (take (i + 1) xs)) (drop (i + 1) xs) in
    ap (flat_map_from f 0) (sym (take-append-drop (i + 1) xs))
    ∙ from_append f 0 (take (i + 1) xs) (drop (i + 1) xs)
    ∙ ap (λ (l : List B). l ++ rest) (from_more f xs i x lt is)

-- where the numbers do not count
pub from_none : {A B : Type 0} (g : A → List B) (n : ℕ) (xs : List A)
    → flat_map_from (λ i. g) n xs ≡ flat_map g xs
from_none g n [] = refl
from_none {A = A} {B = B} g n (x ∷ xs) = ap (λ (l : List B). g x ++ l) (from_none g (n + 1) xs)

pub take_next : {A : Type 0} (xs : List A) (i : ℕ) (x : A) → i < length xs → x ≡ get_or xs i x
    → take (i + 1) xs ≡ take i xs ++ x ∷ []
take_next {A = A} xs i x lt is =
    ap (λ (n : ℕ). take n xs) (add-one i) ∙ take-suc xs i x lt
    ∙ ap (λ (y : A). take i xs ++ y ∷ []) (sym is)
