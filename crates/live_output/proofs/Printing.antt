-- Writing pieces, one behind the other.
use Rattle.std.proofs.Common.{◌≡◌, ℕ, ◌+◌, ◌<◌, List, [], ◌++◌, length, take, get_or}
use Rattle.std.proofs.Common.{Option, Result, Ok, Err, sym, subst, ◌∙◌}
use Rattle.std.proofs.lemmas.List.{append-nil}
use Rattle.rtp_io.specs.Outside.{Adds, AddsFront}
use Rattle.rtp_io.specs.Laws.{adds_then, adds_same, front_then}
use Rattle.command_core.specs.declared.stop.Stop.{Stop}
use Rattle.command_core.specs.declared.stop.Stop.TheVariants as stop
use Rattle.command_core.specs.Laws.{front_more}
use Rattle.command_core.specs.Steps.{Prints}
use Rattle.live_output.specs.Numbered.{flat_map_from}
use Rattle.live_output.proofs.Numbering.{from_more, from_parts}

front_behind : (p q : List ℕ) (a b c : Option (List ℕ))
    → Adds p a b → AddsFront q b c → AddsFront (p ++ q) a c
front_behind p q a b c written front =
    subst (λ (l : List ℕ). AddsFront (p ++ l) a c) (append-nil q)
    (front_then p q [] a b c written front)

-- a piece behind another one that was written
pub prints_then : (p q : List ℕ) (result : Result (Unit {0}) Stop) (a b c : Option (List ℕ))
    (o o' o'' : ℕ) → Adds p a b → o' ≡ o → Prints q result b c o' o''
    → Prints (p ++ q) result a c o o''
prints_then p q (Ok x) a b c o o' o'' written same h =
    (adds_then p q a b c written h.0, h.1 ∙ same)
prints_then p q (Err stop.Write) a b c o o' o'' written same h =
    (front_behind p q a b c written h.0, subst (λ (n : ℕ). n < o'') same h.1)
prints_then p q (Err stop.Memory) a b c o o' o'' written same h =
    (front_behind p q a b c written h.0, h.1 ∙ same)
prints_then p q (Err stop.Usage) a b c o o' o'' written same h = absurd h
prints_then p q (Err (stop.Script line cause)) a b c o o' o'' written same h = absurd h
prints_then p q (Err stop.Read) a b c o o' o'' written same h = absurd h
prints_then p q (Err (stop.Capture fault)) a b c o o' o'' written same h = absurd h

-- a piece that more was to follow
pub prints_cut : (p rest whole : List ℕ) (why : Stop) (a b : Option (List ℕ)) (o o' : ℕ)
    → whole ≡ p ++ rest → Prints p (Err why) a b o o' → Prints whole (Err why) a b o o'
prints_cut p rest whole stop.Write a b o o' is h =
    (subst (λ (l : List ℕ). AddsFront l a b) (sym is) (front_more p rest a b h.0), h.1)
prints_cut p rest whole stop.Memory a b o o' is h =
    (subst (λ (l : List ℕ). AddsFront l a b) (sym is) (front_more p rest a b h.0), h.1)
prints_cut p rest whole stop.Usage a b o o' is h = absurd h
prints_cut p rest whole (stop.Script line cause) a b o o' is h = absurd h
prints_cut p rest whole stop.Read a b o o' is h = absurd h
prints_cut p rest whole (stop.Capture fault) a b o o' is h = absurd h

-- the texts of one element more
pub texts_on : {A : Type 0} (text : ℕ → A → List ℕ) (xs : List A) (i : ℕ) (x : A)
    (a b c : Option (List ℕ)) → i < length xs → x ≡ get_or xs i x
    → Adds (flat_map_from text 0 (take i xs)) a b → Adds (text i x) b c
    → Adds (flat_map_from text 0 (take (i + 1) xs)) a c
texts_on text xs i x a b c lt is before now =
    adds_same (flat_map_from text 0 (take i xs) ++ text i x)
    (flat_map_from text 0 (take (i + 1) xs)) a c (sym (from_more text xs i x lt is))
    (adds_then (flat_map_from text 0 (take i xs)) (text i x) a b c before now)

-- the text of one of them could not be written
pub texts_stop : {A : Type 0} (text : ℕ → A → List ℕ) (xs : List A) (i : ℕ) (x : A) (why : Stop)
    (a b c : Option (List ℕ)) (o o' o'' : ℕ) → i < length xs → x ≡ get_or xs i x
    → Adds (flat_map_from text 0 (take i xs)) a b → o' ≡ o
    → Prints (text i x) (Err why) b c o' o'' → Prints (flat_map_from text 0 xs) (Err why) a c o o''
texts_stop text xs i x why a b c o o' o'' lt is before same h =
    prints_cut (flat_map_from text 0 (take i xs) ++ text i x) _ (flat_map_from text 0 xs) why
    a c o o'' (from_parts text xs i x lt is)
    (prints_then (flat_map_from text 0 (take i xs)) (text i x) (Err why) a b c o o' o'' before same h)
