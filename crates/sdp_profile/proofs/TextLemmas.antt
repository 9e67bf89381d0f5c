-- The lines of a description, and the parts of a line.
use Rattle.std.proofs.Common.{◌≡◌, ◌<◌, ◌≤◌, ◌+◌, ◌-◌, ℕ, List, [], ◌∷◌, ◌++◌, length, take, drop, map, Bool, true, false, Option, Some, None, sym, ◌∙◌, ap, refl, arith, cond, nat_lt, nat_eq, append_assoc, append-nil}
use Rattle.std.specs.Prelude.{filter, IfSome}
use Rattle.std.proofs.lemmas.Grind.{common_steps}
use Rattle.std.specs.Prelude.{position, not}
use Rattle.std.specs.List.{slice_split, position_or_len}
use Rattle.std.proofs.lemmas.List.Sums.{prefix_len-le-length}
use Rattle.std.specs.Borrow.{Bor}
use Rattle.std.specs.Str.Lines.{strip_carriage_return}
use Rattle.std.proofs.lemmas.List.Splits.{slice_split_first, slice_split_none}
use Rattle.std.proofs.lemmas.Option.{cond_some}
use Rattle.std.proofs.lemmas.Bool.{ltb-true, ltb-false}
use Rattle.std.proofs.lemmas.List.Sums.{fails_before_first}
use Rattle.std.proofs.lemmas.Bool.Decides.{nat_tests}
use Rattle.std.proofs.lemmas.List.Elements.{filter-append}
use Rattle.std.specs.Option.{option_or}
use Rattle.script_lang.specs.Text.{lines_of}
use Rattle.script_lang.specs.Reading.{lines_left}
use Rattle.sdp_profile.specs.Text.{Line, numbered, is_filled, filled_lines, place, front, cut, first_of}
use Rattle.sdp_profile.specs.Attributes.{apt_in, parameters_of}
use Rattle.sdp_profile.specs.declared.lines.TextLine.{TextLine}
use Rattle.sdp_profile.specs.Reading.{line_in, lines_in}

pub whole_lines : (n : ℕ) (lines : List TextLine) → take (length lines - n) (drop n lines) ≡ drop n lines
whole_lines n lines = grind (arith, common_steps)

pub whole_rest : (n : ℕ) (text : List ℕ) → take (length text - n) (drop n text) ≡ drop n text
whole_rest n text = grind (arith, common_steps)

cut_some : {A : Type 0} (b : Bool) (x y : A) → cond b (Some x) None ≡ Some y → (b ≡ true) × (x ≡ y)
cut_some b x y e = cond_some b x y e

cut_none : {A : Type 0} (b : Bool) (x : A) → cond b (Some x) None ≡ None → b ≡ false
cut_none true x e = absurd (cc)
cut_none false x e = refl

-- the place of the first element that passes
pub place_found : {X : Type 0} (p : X → Bool) (xs : List X) (n : ℕ) → position p xs ≡ Some n → (n < length xs) × (position_or_len p xs ≡ n)
place_found p xs n e =
    let found = cond_some (nat_lt (position_or_len p xs) (length xs)) (position_or_len p xs) n e in
    let within : position_or_len p xs < length xs = ltb-true (position_or_len p xs) (length xs) found.0 in
    (omega (arith, within, found.1), found.1)

pub none_found : {X : Type 0} (p : X → Bool) (xs : List X) → position p xs ≡ None → position_or_len p xs ≡ length xs
none_found p xs e =
    let past : length xs ≤ position_or_len p xs = ltb-false (position_or_len p xs) (length xs) (cut_none (nat_lt (position_or_len p xs) (length xs)) (position_or_len p xs) e) in
    let within : position_or_len p xs ≤ length xs = prefix_len-le-length (λ x. not (p x)) xs in
    omega arith

-- a text that is cut
pub split_cut : (byte : ℕ) (text : List ℕ) (parts : List ℕ × List ℕ) → cut byte text ≡ Some parts
    → slice_split (λ b. nat_eq b byte) text ≡ parts.0 ∷ slice_split (λ b. nat_eq b byte) parts.1
split_cut byte text parts e =
    let at = cut_some (nat_lt (place byte text) (length text)) (front byte text, drop (place byte text + 1) text) parts e in
    let within : place byte text < length text = ltb-true (place byte text) (length text) at.0 in
    slice_split_first (λ b. nat_eq b byte) text 0 within ∙ ap (λ (q : List ℕ × List ℕ). q.0 ∷ slice_split (λ b. nat_eq b byte) q.1) at.1

pub split_uncut : (byte : ℕ) (text : List ℕ) → cut byte text ≡ None → slice_split (λ b. nat_eq b byte) text ≡ text ∷ []
split_uncut byte text e =
    let past : length text ≤ place byte text = ltb-false (place byte text) (length text) (cut_none (nat_lt (place byte text) (length text)) (front byte text, drop (place byte text + 1) text) e) in
    slice_split_none (λ b. nat_eq b byte) text (λ k d lt. fails_before_first (λ b. nat_eq b byte) text k d (omega arith))

-- ---- lines

pub lines_cut : (text : List ℕ) (parts : List ℕ × List ℕ) → cut 10 text ≡ Some parts → lines_of text ≡ strip_carriage_return parts.0 ∷ lines_of parts.1
unfolding lines_of
lines_cut text parts e = ap (map strip_carriage_return) (split_cut 10 text parts e)

pub lines_uncut : (text : List ℕ) → cut 10 text ≡ None → lines_of text ≡ strip_carriage_return text ∷ []
unfolding lines_of
lines_uncut text e = ap (map strip_carriage_return) (split_uncut 10 text e)

-- how many bytes are left, and one more
abbrev pub size_left : Option (Bor (List ℕ)) → ℕ
size_left None = 0
size_left (Some text) = length text.now + 1

-- The lines so far and those that are left are all lines.
pub record LinesSoFar (lines : List TextLine) (number : ℕ) (left : Option (Bor (List ℕ))) (bytes : List ℕ) : Type 0 where
  pub onward : lines_in lines ++ filter is_filled (numbered (number + 1) (lines_left left)) ≡ filled_lines bytes
  pub count : number + size_left left ≤ length bytes + 1

is_some_length : (n : ℕ) → nat_eq n 0 ≡ false → nat_lt 0 n ≡ true
is_some_length n e = grind (arith, nat_tests)

is_no_length : (n : ℕ) → nat_eq n 0 ≡ true → nat_lt 0 n ≡ false
is_no_length n e = grind (arith, nat_tests)

map_append : (xs ys : List TextLine) → lines_in (xs ++ ys) ≡ lines_in xs ++ lines_in ys
map_append [] ys = refl
map_append (x ∷ xs) ys = ap (λ ls. line_in x ∷ ls) (map_append xs ys)

pub nothing_read : (bytes : Bor (List ℕ)) → LinesSoFar [] 0 (Some bytes) bytes.now
unfolding filled_lines
nothing_read bytes = record { onward = refl; count = omega arith }

pub kept_one : (lines : List TextLine) (tl : TextLine) → nat_eq (length tl.text.now) 0 ≡ false → lines_in (lines ++ tl ∷ []) ≡ lines_in lines ++ filter is_filled (line_in tl ∷ [])
kept_one lines tl e =
    map_append lines (tl ∷ []) ∙ ap (λ (t : Bool). lines_in lines ++ cond t (line_in tl ∷ []) []) (sym (is_some_length (length tl.text.now) e))

pub dropped_one : (lines : List TextLine) (l : Line) → nat_eq (length l.text) 0 ≡ true → lines_in lines ≡ lines_in lines ++ filter is_filled (l ∷ [])
dropped_one lines l e =
    sym (append-nil (lines_in lines)) ∙ ap (λ (t : Bool). lines_in lines ++ cond t (l ∷ []) []) (sym (is_no_length (length l.text) e))

shorter_left : (rest : Option (Bor (List ℕ))) (text : Bor (List ℕ)) → IfSome rest (λ r. length r.now < length text.now) → size_left rest + 1 ≤ size_left (Some text)
shorter_left None text h = omega arith
shorter_left (Some r) text h = omega arith

pub line_read : (lines new : List TextLine) (n : ℕ) (text : Bor (List ℕ)) (rest : Option (Bor (List ℕ))) (bytes line : List ℕ)
    → LinesSoFar lines n (Some text) bytes → lines_of text.now ≡ line ∷ lines_left rest → IfSome rest (λ r. length r.now < length text.now)
    → lines_in new ≡ lines_in lines ++ filter is_filled (record { number = n + 1; text = line } ∷ []) → LinesSoFar new (n + 1) rest bytes
line_read lines new n text rest bytes line sofar splits shorter is =
    let l : Line = record { number = n + 1; text = line } in
    let behind : List Line = numbered (n + 1 + 1) (lines_left rest) in
    record {
      onward =
          ap (λ ls. ls ++ filter is_filled behind) is
          ∙ append_assoc (lines_in lines) (filter is_filled (l ∷ [])) (filter is_filled behind)
          ∙ ap (λ ls. lines_in lines ++ ls) (sym (filter-append is_filled (l ∷ []) behind))
          ∙ ap (λ ts. lines_in lines ++ filter is_filled (numbered (n + 1) ts)) (sym splits)
          ∙ sofar.onward;
      count = omega (arith, shorter_left rest text shorter, sofar.count);
    }

pub all_lines_read : (lines : List TextLine) (n : ℕ) (bytes : List ℕ) → LinesSoFar lines n None bytes → lines_in lines ≡ filled_lines bytes
all_lines_read lines n bytes sofar = sym (append-nil (lines_in lines)) ∙ sofar.onward

-- ---- parameters

or_none : {A : Type 0} (o : Option A) → option_or o None ≡ o
or_none None = refl
or_none (Some x) = refl

pub apt_here : (rest : List ℕ) (parts : List ℕ × List ℕ) (apt : Option ℕ) → cut 59 rest ≡ Some parts → apt_in parts.0 ≡ Some apt → first_of apt_in (parameters_of rest) ≡ Some apt
apt_here rest parts apt e is = ap (first_of apt_in) (split_cut 59 rest parts e) ∙ ap (λ o. option_or o (first_of apt_in (parameters_of parts.1))) is

pub apt_behind : (rest : List ℕ) (parts : List ℕ × List ℕ) → cut 59 rest ≡ Some parts → apt_in parts.0 ≡ None → first_of apt_in (parameters_of parts.1) ≡ first_of apt_in (parameters_of rest)
apt_behind rest parts e is = sym (ap (first_of apt_in) (split_cut 59 rest parts e) ∙ ap (λ o. option_or o (first_of apt_in (parameters_of parts.1))) is)

pub apt_last : (rest : List ℕ) → cut 59 rest ≡ None → first_of apt_in (parameters_of rest) ≡ apt_in rest
apt_last rest e = ap (first_of apt_in) (split_uncut 59 rest e) ∙ or_none (apt_in rest)
