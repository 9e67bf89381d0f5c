-- Notes one after the other: their steps and their moves.
use Rattle.std.proofs.Common.{◌≡◌, ℕ, List, [], ◌∷◌, ◌++◌, map, reverse, refl, sym, ap, subst, ◌∙◌}
use Rattle.std.specs.Prelude.{option_to_list, Option, Some, None, Result, Ok, Err, OnOk}
use Rattle.std.specs.List.{filter_map}
use Rattle.std.proofs.lemmas.List.{append-nil, append_assoc, reverse-append, map-append}
use Rattle.script_lang.specs.Contents.{Contents}
use Rattle.front_model.specs.declared.Step.{Step}
use Rattle.front_model.specs.Moves.{Move, move_of}
use Rattle.front_model.specs.Notes.{Note, Holds, broken}
use Rattle.front_model.specs.Probation.{Kept}
use Rattle.front_model.specs.Steps.{note_steps, notes_steps}
use Rattle.rtp_front.specs.Notes.{moves_behind, TakesNotes}
use Rattle.rtp_front.specs.Standing.{StreamsState, IsLeftBy}

-- ---- notes behind notes

pub joined_moves : (s : ℕ) (xs ys : List Note) (older : List Move)
    → moves_behind s (xs ++ ys) older ≡ moves_behind s ys (moves_behind s xs older)
joined_moves s [] ys older = refl
joined_moves s (x ∷ xs) ys older =
    joined_moves s xs ys (option_to_list (move_of s x) ++ older)

pub joined_steps : (c : Contents) (t s : ℕ) (xs ys : List Note) (older : List Move)
    → notes_steps c t older s (xs ++ ys)
    ≡ notes_steps c t older s xs ++ notes_steps c t (moves_behind s xs older) s ys
joined_steps c t s [] ys older = refl
joined_steps c t s (x ∷ xs) ys older =
    let next : List Move = option_to_list (move_of s x) ++ older in
    ap (λ (l : List Step). note_steps c t older s x ++ l) (joined_steps c t s xs ys next)
    ∙ sym
    (append_assoc (note_steps c t older s x) (notes_steps c t next s xs)
    (notes_steps c t (moves_behind s xs next) s ys))

pub none_taken : (c : Contents) (t s : ℕ) (older : List Move) (b : List Step) (x : StreamsState)
    → IsLeftBy c older x → TakesNotes c t s older [] b b x
none_taken c t s older b x stands = record { steps = sym (append-nil b); stands = stands }

pub one_taken : (c : Contents) (t s : ℕ) (older : List Move) (n : Note) (b d : List Step)
    (x : StreamsState) → d ≡ b ++ note_steps c t older s n
    → IsLeftBy c (option_to_list (move_of s n) ++ older) x
    → TakesNotes c t s older (n ∷ []) b d x
one_taken c t s older n b d x e stands = record {
  steps = e ∙ ap (λ (l : List Step). b ++ l) (sym (append-nil (note_steps c t older s n)));
  stands = stands;
}

pub both_taken : (c : Contents) (t s : ℕ) (older : List Move) (xs ys : List Note)
    (b d e : List Step) (x y : StreamsState) → TakesNotes c t s older xs b d x
    → TakesNotes c t s (moves_behind s xs older) ys d e y
    → TakesNotes c t s older (xs ++ ys) b e y
both_taken c t s older xs ys b d e x y first then = record {
  steps =
      then.steps
      ∙ ap (λ (l : List Step). l ++ notes_steps c t (moves_behind s xs older) s ys) first.steps
      ∙ append_assoc b (notes_steps c t older s xs)
      (notes_steps c t (moves_behind s xs older) s ys)
      ∙ ap (λ (l : List Step). b ++ l) (sym (joined_steps c t s xs ys older));
  stands =
      subst (λ (l : List Move). IsLeftBy c l y) (sym (joined_moves s xs ys older)) then.stands;
}

-- ---- notes of which nothing goes on

module _ {X : Type 0} (s : ℕ) (f : X → Note) (silent : (x : X) → move_of s (f x) ≡ None) where
  pub silent_moves : (xs : List X) (older : List Move) → moves_behind s (map f xs) older ≡ older
  silent_moves [] older = refl
  silent_moves (x ∷ xs) older =
      silent_moves xs (option_to_list (move_of s (f x)) ++ older)
      ∙ ap (λ (o : Option Move). option_to_list o ++ older) (silent x)

  -- one more behind them
  pub silent_more : (c : Contents) (t : ℕ) (older : List Move) (xs : List X) (n : Note)
      → notes_steps c t older s (map f xs ++ n ∷ [])
      ≡ notes_steps c t older s (map f xs) ++ note_steps c t older s n
  silent_more c t older xs n =
      joined_steps c t s (map f xs) (n ∷ []) older
      ∙ ap (λ (l : List Move). notes_steps c t older s (map f xs) ++ notes_steps c t l s (n ∷ []))
      (silent_moves xs older)
      ∙ ap (λ (l : List Step). notes_steps c t older s (map f xs) ++ l)
      (append-nil (note_steps c t older s n))

  -- one more of them in a loop
  pub one_told : (c : Contents) (t : ℕ) (older : List Move) (xs : List X) (x : X)
      (b d e : List Step) → d ≡ b ++ notes_steps c t older s (map f xs)
      → e ≡ d ++ note_steps c t older s (f x)
      → e ≡ b ++ notes_steps c t older s (map f (xs ++ x ∷ []))
  one_told c t older xs x b d e before told =
      told
      ∙ ap (λ (l : List Step). l ++ note_steps c t older s (f x)) before
      ∙ append_assoc b (notes_steps c t older s (map f xs)) (note_steps c t older s (f x))
      ∙ ap (λ (l : List Step). b ++ l)
      (sym (ap (notes_steps c t older s) (map-append f xs (x ∷ []))
      ∙ silent_more c t older xs (f x)))

  -- another one behind all of them
  pub last_told : (c : Contents) (t : ℕ) (older : List Move) (xs : List X) (n : Note)
      (b d e : List Step) → d ≡ b ++ notes_steps c t older s (map f xs)
      → e ≡ d ++ note_steps c t older s n
      → e ≡ b ++ notes_steps c t older s (map f xs ++ n ∷ [])
  last_told c t older xs n b d e before told =
      told
      ∙ ap (λ (l : List Step). l ++ note_steps c t older s n) before
      ∙ append_assoc b (notes_steps c t older s (map f xs)) (note_steps c t older s n)
      ∙ ap (λ (l : List Step). b ++ l) (sym (silent_more c t older xs n))

-- ---- the moves, as the definitions have them

moved_by : (o : Option Move) (ms : List Move) (older : List Move)
    → reverse ms ++ (option_to_list o ++ older)
    ≡ reverse (option_to_list o ++ ms) ++ older
moved_by None ms older = refl
moved_by (Some m) ms older =
    sym
    (ap (λ (l : List Move). l ++ older) (reverse-append (m ∷ []) ms)
    ∙ append_assoc (reverse ms) (m ∷ []) older)

filtered : (s : ℕ) (n : Note) (ns : List Note) (o : Option Move) → move_of s n ≡ o
    → filter_map (move_of s) (n ∷ ns) ≡ option_to_list o ++ filter_map (move_of s) ns
filtered s n ns None e = simp e
filtered s n ns (Some m) e = simp e

pub all_moved : (s : ℕ) (ns : List Note) (older : List Move)
    → moves_behind s ns older ≡ reverse (filter_map (move_of s) ns) ++ older
all_moved s [] older = refl
all_moved s (n ∷ ns) older =
    all_moved s ns (option_to_list (move_of s n) ++ older)
    ∙ moved_by (move_of s n) (filter_map (move_of s) ns) older
    ∙ ap (λ (l : List Move). reverse l ++ older) (sym (filtered s n ns (move_of s n) refl))

-- ---- of a call that may fail

pub on_both : {T E : Type 0} (r : Result T E) (P Q R : Type 0) → (P → Q → R) → OnOk r P → OnOk r Q
    → OnOk r R
on_both (Ok x) P Q R f p q = f p q
on_both (Err x) P Q R f p q = tt

pub on_any : {T E : Type 0} (r : Result T E) (P : Type 0) → P → OnOk r P
on_any (Ok x) P p = p
on_any (Err x) P p = tt

-- ---- packets that wait behind those that were dropped

pub held_taken : (c : Contents) (t s : ℕ) (older : List Move) (ks : List Kept) (p : Kept)
    (b d : List Step) (x : StreamsState) → IsLeftBy c older x
    → d ≡ b ++ notes_steps c t older s (map broken ks ++ Holds p ∷ [])
    → TakesNotes c t s older (map broken ks ++ Holds p ∷ []) b d x
held_taken c t s older ks p b d x stands steps = record {
  steps = steps;
  stands =
      subst (λ (l : List Move). IsLeftBy c l x)
      (sym
      (joined_moves s (map broken ks) (Holds p ∷ []) older
      ∙ silent_moves s broken (λ (k : Kept). refl) ks older))
      stands;
}
