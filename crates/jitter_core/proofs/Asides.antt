-- The list of the packets that are put aside.
use Rattle.std.proofs.Common.{ℕ, suc, ◌≡◌, ◌+◌, ◌-◌, Bool, false, refl, sym, ap, subst, ◌∙◌, List, [], ◌∷◌, ◌++◌, length, arith}
use Rattle.std.specs.Prelude.{◌%◌, ◌^◌, ◌==◌, ◌↔◌, IsTrue, IsSomeAnd, Option, Some, slice_get}
use Rattle.std.proofs.lemmas.Grind.{common_steps}
use Rattle.jitter_model.specs.Accepted.{follows}
use Rattle.jitter_model.specs.declared.Arrival.{Arrival}
use Rattle.jitter_model.specs.Laws.{IsRun}
use Rattle.jitter_core.specs.Asides.{in_order, newest_first}
use Rattle.jitter_core.proofs.Cases.{run_rest}

newest-append : (xs : List (ℕ × Arrival)) (x : ℕ × Arrival) → newest_first (xs ++ x ∷ []) ≡ x.1 ∷ newest_first xs
newest-append [] x = refl
newest-append (y ∷ xs) x = ap (λ (run : List Arrival). run ++ y.1 ∷ []) (newest-append xs x)

-- the newest first of a run in order are the run
pub newest_is : (run : List Arrival) → newest_first (in_order run) ≡ run
newest_is [] = refl
newest_is (a ∷ run) = newest-append (in_order run) (a.packet.seq, a) ∙ ap (λ (rest : List Arrival). a ∷ rest) (newest_is run)

pub in_order_is : (xs : List (ℕ × Arrival)) (run : List Arrival) → xs ≡ in_order run → xs ≡ in_order (newest_first xs)
in_order_is xs run e = e ∙ sym (ap in_order (ap newest_first e ∙ newest_is run))

pub run_is : (xs : List (ℕ × Arrival)) (run : List Arrival) → xs ≡ in_order run → newest_first xs ≡ run
run_is xs run e = ap newest_first e ∙ newest_is run

-- a part of a run that reaches to its end is a run
pub run_end : (newer older : List Arrival) → IsRun (newer ++ older) → IsRun older
run_end [] older r = r
run_end (a ∷ newer) older r = run_end newer older (run_rest a (newer ++ older) r)

length-more : (xs : List (ℕ × Arrival)) (x : ℕ × Arrival) → length (xs ++ x ∷ []) ≡ suc (length xs)
length-more [] x = refl
length-more (y ∷ xs) x = ap suc (length-more xs x)

pub length_in_order : (run : List Arrival) → length (in_order run) ≡ length run
length_in_order [] = refl
length_in_order (a ∷ run) = length-more (in_order run) (a.packet.seq, a) ∙ ap suc (length_in_order run)

get-more : (xs : List (ℕ × Arrival)) (x : ℕ × Arrival) → slice_get (xs ++ x ∷ []) (length xs) ≡ Some x
get-more [] x = refl
get-more (y ∷ xs) x = get-more xs x

-- the last of a run in order is its newest packet
pub last_is : (a : Arrival) (run : List Arrival) → slice_get (in_order (a ∷ run)) (length (in_order (a ∷ run)) - 1) ≡ Some (a.packet.seq, a)
last_is a run =
    let at : length (in_order (a ∷ run)) - 1 ≡ length (in_order run) = omega (arith, length-more (in_order run) (a.packet.seq, a)) in
    ap (λ (i : ℕ). slice_get (in_order (a ∷ run)) i) at ∙ get-more (in_order run) (a.packet.seq, a)

longer : (run : List Arrival) (a : Arrival) → length (run ++ a ∷ []) ≡ suc (length run)
longer [] a = refl
longer (b ∷ run) a = ap suc (longer run a)

pub length_newest : (xs : List (ℕ × Arrival)) → length (newest_first xs) ≡ length xs
length_newest [] = refl
length_newest (x ∷ xs) = longer (newest_first xs) x.1 ∙ ap suc (length_newest xs)

-- ---- what follows

eq_is : (b : Bool) (m n : ℕ) → (IsTrue b ↔ (m ≡ n)) → b ≡ (m == n)
eq_is b m n h = grind (arith, common_steps)

never : (b : Bool) → (IsTrue b ↔ ⊥) → b ≡ false
never b h = grind (arith, common_steps)

-- the list's answer to whether a packet follows
abbrev Follows : Bool → Option (ℕ × Arrival) → Arrival → Type 0
Follows b o a = IsTrue b ↔ IsSomeAnd o (λ x. a.packet.seq ≡ (x.0 + 1) % 2 ^ 16)

follows_run : (run : List Arrival) (a : Arrival) (b : Bool) → Follows b (slice_get (in_order run) (length (in_order run) - 1)) a → b ≡ follows run a
follows_run [] a b h = never b h
follows_run (c ∷ run) a b h = eq_is b a.packet.seq ((c.packet.seq + 1) % 65536) (subst (λ (o : Option (ℕ × Arrival)). Follows b o a) (last_is c run) h)

pub follows_is : (xs : List (ℕ × Arrival)) (a : Arrival) (b : Bool) → xs ≡ in_order (newest_first xs) → Follows b (slice_get xs (length xs - 1)) a → b ≡ follows (newest_first xs) a
follows_is xs a b e h = follows_run (newest_first xs) a b (subst (λ (ys : List (ℕ × Arrival)). Follows b (slice_get ys (length ys - 1)) a) e h)

-- a packet appended to a run that it follows, or to none
pub appended : (xs : List (ℕ × Arrival)) (a : Arrival) → xs ≡ in_order (newest_first xs) → xs ++ (a.packet.seq, a) ∷ [] ≡ in_order (a ∷ newest_first xs)
appended xs a e = ap (λ (ys : List (ℕ × Arrival)). ys ++ (a.packet.seq, a) ∷ []) e
