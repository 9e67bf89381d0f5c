-- Calls on a table, one after the other.
use Rattle.std.proofs.Common.{◌≡◌, ◌<◌, ℕ, ◌+◌, List, [], ◌∷◌, ◌++◌, length, get_or, take, map, refl, sym, ap, ◌∙◌, subst}
use Rattle.std.specs.List.{flat_map}
use Rattle.std.proofs.lemmas.List.{append-nil, append_assoc}
use Rattle.source_table.specs.Table.{Table}
use Rattle.front_model.specs.Given.{Ask, Leaves}
use Rattle.front_model.specs.Notes.{Note}
use Rattle.rtp_session.specs.declared.answers.SessionNote.{SessionNote}
use Rattle.rtp_session.specs.Answers.{told}
use Rattle.rtp_session.specs.Compounds.{call_notes, call_next, calls_notes, calls_next, Tells}
use Rattle.rtp_session.proofs.Each.{flat_more, map_more}

pub next_joined : (t : Table) (xs ys : List Ask) → calls_next t (xs ++ ys) ≡ calls_next (calls_next t xs) ys
next_joined t [] ys = refl
next_joined t (x ∷ xs) ys = next_joined (call_next t x) xs ys

pub notes_joined : (t : Table) (xs ys : List Ask) → calls_notes t (xs ++ ys) ≡ calls_notes t xs ++ calls_notes (calls_next t xs) ys
notes_joined t [] ys = refl
notes_joined t (x ∷ xs) ys =
    ap (λ (l : List Note). call_notes t x ++ l) (notes_joined (call_next t x) xs ys)
    ∙ sym (append_assoc (call_notes t x) (calls_notes (call_next t x) xs) (calls_notes (calls_next (call_next t x) xs) ys))

-- ---- what led from a table to a table

pub none : (t : Table) (ns : List SessionNote) → Tells t t ns ns []
none t ns = record { table = refl; notes = sym (append-nil (map told ns)) }

pub joined : (a b c : Table) (x y z : List SessionNote) (xs ys : List Ask) → Tells a b x y xs → Tells b c y z ys → Tells a c x z (xs ++ ys)
joined a b c x y z xs ys one two = record {
  table = two.table ∙ ap (λ (t : Table). calls_next t ys) one.table ∙ sym (next_joined a xs ys);
  notes =
      two.notes
      ∙ (λ i. one.notes i ++ calls_notes (one.table i) ys)
      ∙ append_assoc (map told x) (calls_notes a xs) (calls_notes (calls_next a xs) ys)
      ∙ ap (λ (l : List Note). map told x ++ l) (sym (notes_joined a xs ys));
}

pub one_more : {X : Type 0} (f : X → List Ask) (ps : List X) (i : ℕ) (p : X) (a b c : Table) (x y z : List SessionNote) → i < length ps → p ≡ get_or ps i p
    → Tells a b x y (flat_map f (take i ps)) → Tells b c y z (f p) → Tells a c x z (flat_map f (take (i + 1) ps))
one_more f ps i p a b c x y z lt at one two =
    subst (λ (l : List Ask). Tells a c x z l) (sym (flat_more f ps i p p lt at)) (joined a b c x y z (flat_map f (take i ps)) (f p) one two)

pub one_leaves : (ps : List ℕ) (i p : ℕ) (a b c : Table) (x y z : List SessionNote) → i < length ps → p ≡ get_or ps i 0
    → Tells a b x y (map Leaves (take i ps)) → Tells b c y z (Leaves p ∷ []) → Tells a c x z (map Leaves (take (i + 1) ps))
one_leaves ps i p a b c x y z lt at one two =
    subst (λ (l : List Ask). Tells a c x z l) (sym (map_more Leaves ps i p 0 lt at)) (joined a b c x y z (map Leaves (take i ps)) (Leaves p ∷ []) one two)

-- a note that is pushed
pub pushed : (a b : Table) (x y : List SessionNote) (n : SessionNote) (call : Ask) → b ≡ call_next a call → told n ∷ [] ≡ call_notes a call → map told y ≡ map told x ++ told n ∷ [] → Tells a b x y (call ∷ [])
pushed a b x y n call table note notes = record {
  table = table;
  notes = notes ∙ ap (λ (l : List Note). map told x ++ l) (note ∙ sym (append-nil (call_notes a call)));
}

pub silent : (a b : Table) (x : List SessionNote) (call : Ask) → b ≡ call_next a call → [] ≡ call_notes a call → Tells a b x x (call ∷ [])
silent a b x call table note = record {
  table = table;
  notes = sym (append-nil (map told x)) ∙ ap (λ (l : List Note). map told x ++ l) (note ∙ sym (append-nil (call_notes a call)));
}
