-- Writing lines, one by one.
use Rattle.std.proofs.Common.{◌≡◌, ℕ, ◌+◌, ◌<◌, List, [], ◌∷◌, ◌++◌, length, take, drop, get_or, suc, Option, Err, sym, ap, subst, ◌∙◌, add-one}
use Rattle.std.specs.List.{flat_map}
use Rattle.std.proofs.Math.Seq.{take-suc, drop-cons}
use Rattle.std.proofs.lemmas.List.{take-append-drop, append-nil}
use Rattle.std.proofs.lemmas.List.Concat.{flat_map-append}
use Rattle.rtp_io.specs.Outside.{Adds, AddsFront}
use Rattle.rtp_io.specs.Laws.{adds_then, adds_same, front_then}
use Rattle.command_core.specs.declared.stop.Stop.{Stop}
use Rattle.command_core.specs.declared.stop.Stop.TheVariants as stop
use Rattle.command_core.specs.Steps.{Prints}

one_more : {L : Type 0} (text : L → List ℕ) (xs : List L) (i : ℕ) (x : L) → i < length xs → x ≡ get_or xs i x → flat_map text (take (i + 1) xs) ≡ flat_map text (take i xs) ++ text x
one_more text xs i x lt is =
    ap (λ (n : ℕ). flat_map text (take n xs)) (add-one i) ∙ ap (flat_map text) (take-suc xs i x lt) ∙ flat_map-append text (take i xs) (get_or xs i x ∷ [])
    ∙ ap (λ (l : List ℕ). flat_map text (take i xs) ++ l) (append-nil (text (get_or xs i x)) ∙ ap text (sym is))

pub prints_on : {L : Type 0} (text : L → List ℕ) (xs : List L) (i : ℕ) (x : L) (a b c : Option (List ℕ)) → i < length xs → x ≡ get_or xs i x → Adds (flat_map text (take i xs)) a b → Adds (text x) b c
    → Adds (flat_map text (take (i + 1) xs)) a c
prints_on text xs i x a b c lt is before now = adds_same (flat_map text (take i xs) ++ text x) (flat_map text (take (i + 1) xs)) a c (sym (one_more text xs i x lt is)) (adds_then (flat_map text (take i xs)) (text x) a b c before now)

all_of : {L : Type 0} (text : L → List ℕ) (xs : List L) (i : ℕ) (x : L) → i < length xs → x ≡ get_or xs i x → flat_map text xs ≡ flat_map text (take i xs) ++ (text x ++ flat_map text (drop (i + 1) xs))
all_of {L = L} text xs i x lt is =
    ap (flat_map text) (sym (take-append-drop i xs)) ∙ flat_map-append text (take i xs) (drop i xs)
    ∙ ap (λ (l : List ℕ). flat_map text (take i xs) ++ l) (ap (flat_map text) (drop-cons xs i x lt) ∙ ap (λ (y : L). text y ++ flat_map text (drop (suc i) xs)) (sym is) ∙ ap (λ (n : ℕ). text x ++ flat_map text (drop n xs)) (sym (add-one i)))

front_fails : {L : Type 0} (text : L → List ℕ) (xs : List L) (i : ℕ) (x : L) (a b c : Option (List ℕ)) → i < length xs → x ≡ get_or xs i x → Adds (flat_map text (take i xs)) a b → AddsFront (text x) b c → AddsFront (flat_map text xs) a c
front_fails text xs i x a b c lt is before now =
    subst (λ (l : List ℕ). AddsFront l a c) (sym (all_of text xs i x lt is)) (front_then (flat_map text (take i xs)) (text x) (flat_map text (drop (i + 1) xs)) a b c before now)

pub print_fails : {L : Type 0} (text : L → List ℕ) (xs : List L) (i : ℕ) (x : L) (why : Stop) (a b c : Option (List ℕ)) (o o' o'' : ℕ) → i < length xs → x ≡ get_or xs i x → Adds (flat_map text (take i xs)) a b → o' ≡ o
    → Prints (text x) (Err why) b c o' o'' → Prints (flat_map text xs) (Err why) a c o o''
print_fails text xs i x stop.Write a b c o o' o'' lt is before same h = (front_fails text xs i x a b c lt is before h.0, subst (λ (n : ℕ). n < o'') same h.1)
print_fails text xs i x stop.Memory a b c o o' o'' lt is before same h = (front_fails text xs i x a b c lt is before h.0, h.1 ∙ same)
print_fails text xs i x stop.Usage a b c o o' o'' lt is before same h = absurd h
print_fails text xs i x (stop.Script line cause) a b c o o' o'' lt is before same h = absurd h
print_fails text xs i x stop.Read a b c o o' o'' lt is before same h = absurd h
print_fails text xs i x (stop.Capture fault) a b c o o' o'' lt is before same h = absurd h
