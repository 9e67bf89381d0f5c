-- Finding an entry by its name, and giving its bytes.
use Rattle.std.proofs.Common.{◌≡◌, ℕ, ◌+◌, ◌<◌, ◌≤◌, Bool, true, false, List, [], ◌∷◌, ◌++◌, drop, take, length, get_or, Option, Some, None, refl, sym, ap, ◌∙◌, arith}
use Rattle.std.proofs.Common.{subst, ◌||◌}
use Rattle.std.specs.Prelude.{bytes_eq, string_bytes, slice_get, option_map, option_and_then, is_some, if◌then◌else◌, Result, Ok, Err, OnOk, OnErr}
use Rattle.std.specs.Option.{ForSome}
use Rattle.std.proofs.lemmas.Option.{slice_get-get_or}
use Rattle.std.proofs.lemmas.List.{get_or_append_left, length-append}
use Rattle.std.proofs.lemmas.List.{drop_more, drop-drop, take-append-drop, nil_from_length, length-take-le}
use Rattle.std.proofs.lemmas.Option.{slice_get_read}
use Rattle.std.proofs.lemmas.Slice.Eq.{bytes_eq-Decides}
use Rattle.rtp_io.specs.declared.shelf.Entry.{Entry}
use Rattle.std.proofs.lemmas.Bool.{cases_lt}
use Rattle.std.proofs.Common.{inl, inr}
use Rattle.rtp_io.specs.Outside.{SameDisk, Gives}
use Rattle.rtp_io.specs.declared.shelf.Shelf.{Shelf}
use Rattle.rtp_io.specs.Memory.{find, known, IsPlace, AddsFile, disk_of, opened_of, bytes_of}

pub is_place : (entries : List Entry) (name text : List ℕ) (i : ℕ) (entry : Entry) → i < length entries → entry ≡ get_or entries i entry → text ≡ string_bytes entry.name → bytes_eq text name ≡ true
    → find (drop i entries) name ≡ find entries name → IsPlace entries name i
is_place entries name text i entry lt is text-is same so_far =
    let test : bytes_eq (string_bytes entry.name) name ≡ true = ap (λ (t : List ℕ). bytes_eq t name) (sym text-is) ∙ same in
    let cut : drop i entries ≡ entry ∷ drop (i + 1) entries = drop_more entries i entry lt ∙ ap (λ (e : Entry). e ∷ drop (i + 1) entries) (sym is) in
    record {
      entry = entry;
      there = slice_get_read entries (length entries) i entry refl lt is;
      named = (bytes_eq-Decides (string_bytes entry.name) name).0 test;
      first = sym so_far ∙ ap (λ (es : List Entry). find es name) cut ∙ ap (λ (b : Bool). if b then Some entry else find (drop (i + 1) entries) name) test;
    }

-- a piece of what is left
pub gives_piece : (p : List ℕ → Bool) (old new : Shelf) (size : ℕ) (left piece : List ℕ) → left ≡ (disk_of p old).left → piece ≡ take size left → new.entries ≡ old.entries → new.opened ≡ old.opened → new.position ≡ old.position + size
    → (0 < length left → 0 < size) → size ≤ length left → Gives piece (disk_of p old) (disk_of p new)
gives_piece p old new size left piece left-is piece-is entries opened position some bound =
    let same : opened_of new ≡ opened_of old = rw (entries, opened) refl in
    let after : drop new.position (bytes_of (opened_of new)) ≡ drop size left = rw (same, position) (sym (drop-drop size old.position (bytes_of (opened_of old)))) ∙ ap (drop size) (sym left-is) in
    record {
      front = sym left-is ∙ sym (take-append-drop size left) ∙ ap (λ (l : List ℕ). l ++ drop size left) (sym piece-is) ∙ ap (λ (l : List ℕ). piece ++ l) (sym after);
      none = λ zero-is. sym left-is ∙ nil_from_length left (nothing (ap length (sym piece-is) ∙ zero-is));
      opened = ap (λ (e : Option Entry). option_map (λ x. string_bytes x.name) e) same;
    }
  where
    nothing : length (take size left) ≡ 0 → length left ≡ 0
    nothing z = elim (cases_lt 0 (length left)) [ inl more ↦ absurd (omega (arith, some more, length-take-le size left bound)) | inr le ↦ omega arith ]

pub on_ok : {A E : Type 0} (r : Result A E) (P Q : Type 0) → (P → Q) → OnOk r P → OnOk r Q
on_ok (Ok x) P Q f p = f p
on_ok (Err e) P Q f p = tt

pub on_err : {A E : Type 0} (r : Result A E) (P Q : Type 0) → (P → Q) → OnErr r P → OnErr r Q
on_err (Ok x) P Q f p = tt
on_err (Err e) P Q f p = f p

pub on_err-2 : {A E : Type 0} (r : Result A E) (P Q R : Type 0) → (P → Q → R) → OnErr r P → OnErr r Q → OnErr r R
on_err-2 (Ok x) P Q R f p q = tt
on_err-2 (Err e) P Q R f p q = f p q

-- the facts that do not speak of the names that may be opened

pub same_under : (p : List ℕ → Bool) (old new : Shelf) → known new ≡ known old → SameDisk (disk_of p old) (disk_of p new) → SameDisk (disk_of (known old) old) (disk_of (known new) new)
same_under p old new held same = record { told = refl; may_open = held; contents = same.contents }

pub gives_under : (p : List ℕ → Bool) (piece : List ℕ) (old new : Shelf) → Gives piece (disk_of p old) (disk_of p new) → Gives piece (disk_of (known old) old) (disk_of (known new) new)
gives_under p piece old new gives = record { front = gives.front; none = gives.none; opened = gives.opened }

pub adds_under : (p q r : List ℕ → Bool) (name bytes : List ℕ) (old new : Shelf) → AddsFile name bytes (disk_of p old) (disk_of p new) → AddsFile name bytes (disk_of q old) (disk_of r new)
adds_under p q r name bytes old new adds = record { contents = adds.contents; opened = adds.opened; left = adds.left }

-- an entry that is added behind

first_of : Option Entry → Option Entry → Option Entry
first_of None other = other
first_of (Some entry) other = Some entry

find-append : (entries : List Entry) (entry : Entry) (name : List ℕ) → find (entries ++ entry ∷ []) name ≡ first_of (find entries name) (if bytes_eq (string_bytes entry.name) name then Some entry else None)
unfolding first_of
find-append [] entry name = refl
find-append (here ∷ entries) entry name = by_name (bytes_eq (string_bytes here.name) name) (find-append entries entry name)
  where
    by_name : (b : Bool) → find (entries ++ entry ∷ []) name ≡ first_of (find entries name) (if bytes_eq (string_bytes entry.name) name then Some entry else None)
        → (if b then Some here else find (entries ++ entry ∷ []) name) ≡ first_of (if b then Some here else find entries name) (if bytes_eq (string_bytes entry.name) name then Some entry else None)
    by_name true e = refl
    by_name false e = e

bytes_of-first_of : (found : Option Entry) (entry : Entry) (b : Bool) (bytes : List ℕ) → (b ≡ true → is_some found ≡ false) → entry.bytes.items ≡ bytes
    → bytes_of (first_of found (if b then Some entry else None)) ≡ (if b then bytes else bytes_of found)
unfolding first_of
bytes_of-first_of None entry true bytes new is = is
bytes_of-first_of None entry false bytes new is = refl
bytes_of-first_of (Some other) entry true bytes new is = let e = new refl in cc
bytes_of-first_of (Some other) entry false bytes new is = refl

is_some-first_of : (found : Option Entry) (entry : Entry) (b : Bool) → is_some (first_of found (if b then Some entry else None)) ≡ (b || is_some found)
unfolding first_of
is_some-first_of None entry true = refl
is_some-first_of None entry false = refl
is_some-first_of (Some other) entry true = refl
is_some-first_of (Some other) entry false = refl

slice_get-append : (xs ys : List Entry) (d : Entry) (i : ℕ) → i < length xs → slice_get (xs ++ ys) i ≡ slice_get xs i
slice_get-append xs ys d i lt =
    slice_get-get_or (xs ++ ys) i d (omega (arith, length-append xs ys)) ∙ ap Some (get_or_append_left xs ys d i lt) ∙ sym (slice_get-get_or xs i d lt)

opened-append : (xs : List Entry) (entry : Entry) (opened : Option ℕ) → ForSome opened (λ place. place < length xs)
    → option_and_then (λ i. slice_get (xs ++ entry ∷ []) i) opened ≡ option_and_then (λ i. slice_get xs i) opened
opened-append xs entry None there = refl
opened-append xs entry (Some place) there = slice_get-append xs (entry ∷ []) entry place (there place refl)

pub known_added : (old new : Shelf) (entry : Entry) (name other : List ℕ) → new.entries.items ≡ old.entries.items ++ entry ∷ [] → string_bytes entry.name ≡ name → known new other ≡ (bytes_eq name other || known old other)
known_added old new entry name other items named =
    ap (λ (es : List Entry). is_some (find es other)) items ∙ ap is_some (find-append old.entries.items entry other)
    ∙ is_some-first_of (find old.entries.items other) entry (bytes_eq (string_bytes entry.name) other) ∙ ap (λ (n : List ℕ). bytes_eq n other || known old other) named

pub adds_file : (p : List ℕ → Bool) (old new : Shelf) (entry : Entry) (name bytes : List ℕ) → new.entries.items ≡ old.entries.items ++ entry ∷ [] → new.opened ≡ old.opened → new.position ≡ old.position
    → string_bytes entry.name ≡ name → entry.bytes.items ≡ bytes → known old name ≡ false → AddsFile name bytes (disk_of p old) (disk_of p new)
adds_file p old new entry name bytes items opened position named is unknown =
    let same : opened_of new ≡ opened_of old = rw (items, opened) (opened-append old.entries.items entry old.opened (λ place e. omega (arith, old.there place e, old.entries.ok.0))) in
    record {
      contents = λ other.
          ap (λ (es : List Entry). bytes_of (find es other)) items ∙ ap bytes_of (find-append old.entries.items entry other)
          ∙ bytes_of-first_of (find old.entries.items other) entry (bytes_eq (string_bytes entry.name) other) bytes (unheld other) is
          ∙ ap (λ (n : List ℕ). if bytes_eq n other then bytes else bytes_of (find old.entries.items other)) named;
      opened = ap (λ (e : Option Entry). option_map (λ x. string_bytes x.name) e) same;
      left = rw (same, position) refl;
    }
  where
    unheld : (other : List ℕ) → bytes_eq (string_bytes entry.name) other ≡ true → is_some (find old.entries.items other) ≡ false
    unheld other e = subst (λ (n : List ℕ). known old n ≡ false) (sym named ∙ (bytes_eq-Decides (string_bytes entry.name) other).0 e) unknown
