-- What a script begins with: a line that is passed over, or one of text. So it begins with no magic number of a capture.
use Rattle.std.proofs.Common.{◌≡◌, ◌≢◌, ℕ, zero, suc, ◌+◌, ◌-◌, ◌<◌, ◌≤◌, Bool, true, false, List, [], ◌∷◌, length, take, map, Option, Some, None, Result, Ok, Err, cond, refl, sym, ap, subst, ◌∙◌, arith}
use Rattle.std.specs.Prelude.{nat_lt, nat_le, nat_eq, ◌==◌, ◌&&◌, ◌||◌, not, if◌then◌else◌, filter, slice_index, codes}
use Rattle.std.specs.List.{slice_split, onto_first, list_all, starts_with}
use Rattle.std.specs.Str.Lines.{strip_carriage_return}
use Rattle.std.proofs.lemmas.Bool.{lt-ltb}
use Rattle.script_lang.specs.declared.fault.ScriptCause.{ScriptCause}
use Rattle.script_lang.specs.declared.fault.ScriptCause.TheVariants as cause
use Rattle.script_lang.specs.declared.fault.ScriptFault.{ScriptFault}
use Rattle.script_lang.specs.Forms.{form_of}
use Rattle.script_lang.specs.declared.entry.Entry.{Entry}
use Rattle.script_lang.specs.Causes.{◌>>=◌}
use Rattle.script_lang.specs.Text.{lines_of, words_of, is_passed_over, is_text, is_text_byte, is_newline, is_blank}
use Rattle.script_lang.specs.Facts.{Facts, Placed, facts_of}
use Rattle.script_lang.specs.Contents.{Contents}
use Rattle.script_lang.specs.Grammar.{read_script, lines_behind, line_behind, entry_in_line, entry_of_form, closed, go_on}

-- the first part of a split
pub record FirstPart (b : ℕ) (parts : List (List ℕ)) : Type 0 where
  pub part : List ℕ
  pub more : List (List ℕ)
  pub is : parts ≡ (b ∷ part) ∷ more

onto : (b : ℕ) (parts : List (List ℕ)) → FirstPart b (onto_first b parts)
onto b [] = record { part = []; more = []; is = refl }
onto b (part ∷ parts) = record { part = part; more = parts; is = refl }

first_part : (p : ℕ → Bool) (b : ℕ) (xs : List ℕ) → p b ≡ false → FirstPart b (slice_split p (b ∷ xs))
first_part p b xs other = let at = onto b (slice_split p xs) in record { part = at.part; more = at.more; is = ap (λ (test : Bool). cond test ([] ∷ slice_split p xs) (onto_first b (slice_split p xs))) other ∙ at.is }

-- a carriage return that is stripped is not the first byte
stripped : (b : ℕ) (part : List ℕ) → (b == 13) ≡ false → (rest : List ℕ) × (strip_carriage_return (b ∷ part) ≡ b ∷ rest)
stripped b [] other = ([], ap (λ (test : Bool). if test then take (length (b ∷ []) - 1) (b ∷ []) else b ∷ []) other)
stripped b (x ∷ part) other = at (slice_index (b ∷ x ∷ part) (length (b ∷ x ∷ part) - 1) == 13)
  where
    n : length (b ∷ x ∷ part) - 1 ≡ suc (length part)
    n = omega arith

    at : (test : Bool) → (rest : List ℕ) × ((if test then take (length (b ∷ x ∷ part) - 1) (b ∷ x ∷ part) else b ∷ x ∷ part) ≡ b ∷ rest)
    at true = (take (length part) (x ∷ part), ap (λ (k : ℕ). take k (b ∷ x ∷ part)) n)
    at false = (x ∷ part, refl)

-- a line that begins with something else than a blank and the sign of a comment is not passed over
not_passed : (b : ℕ) (line : List ℕ) → is_blank b ≡ false → nat_eq 35 b ≡ false → is_passed_over (words_of (b ∷ line)) ≡ false
unfolding words_of
not_passed b line blank other =
    let first = first_part is_blank b line blank in
    let some : nat_lt 0 (length (b ∷ first.part)) ≡ true = lt-ltb 0 (length (b ∷ first.part)) (omega arith) in
    let keep : List ℕ → Bool = λ word. nat_lt 0 (length word) in
    ap (λ (parts : List (List ℕ)). is_passed_over (filter keep parts)) first.is
    ∙ ap (λ (test : Bool). is_passed_over (cond test ((b ∷ first.part) ∷ filter keep first.more) (filter keep first.more))) some
    ∙ ap (λ (test : Bool). test && true) other

-- ---- a line that was read

text_of : (over text : Bool) (said : Result Entry ScriptCause) (e : Option Entry) → over ≡ false
    → (if over then Ok None else ((if text then said else Err cause.Text) >>= λ entry. Ok (Some entry))) ≡ Ok e → text ≡ true
text_of true text said e over is = absurd cc
text_of false true said e over is = refl
text_of false false said e over is = absurd cc

line_is_text : (facts : Facts) (line : List ℕ) (e : Option Entry) → is_passed_over (words_of line) ≡ false → line_behind facts line ≡ Ok e → is_text line ≡ true
unfolding line_behind entry_in_line
line_is_text facts line e over is = text_of (is_passed_over (words_of line)) (is_text line) (entry_of_form facts (form_of (words_of line))) e over is

-- ---- the first line of a script

then_ok : {A B C : Type 0} (r : Result A C) (f : A → Result B C) (b : B) → (r >>= f) ≡ Ok b → (a : A) × (r ≡ Ok a)
then_ok (Ok a) f b is = (a, refl)
then_ok (Err c) f b is = absurd cc

went_on : (behind : List Placed → Result (List Placed) ScriptFault) (n : ℕ) (earlier : List Placed) (r : Result (Option Entry) ScriptCause) (p : List Placed) → go_on behind n earlier r ≡ Ok p → (e : Option Entry) × (r ≡ Ok e)
went_on behind n earlier (Ok e) p is = (e, refl)
went_on behind n earlier (Err c) p is = absurd cc

size_ok : {A C : Type 0} (big : Bool) (c : C) (r : Result A C) (a : A) → (if big then Err c else r) ≡ Ok a → r ≡ Ok a
size_ok true c r a is = absurd cc
size_ok false c r a is = is

first_line : (text : List ℕ) (c : Contents) (line : List ℕ) (lines : List (List ℕ)) → read_script text ≡ Ok c → lines_of text ≡ line ∷ lines → (e : Option Entry) × (line_behind (facts_of []) line ≡ Ok e)
unfolding read_script lines_behind
first_line text c line lines is at =
    let read = then_ok (lines_behind 1 [] (lines_of text)) (λ placed. closed (facts_of placed)) c (size_ok _ _ _ c is) in
    went_on (λ placed. lines_behind 2 placed lines) 1 [] (line_behind (facts_of []) line) read.0 (sym (ap (lines_behind 1 []) at) ∙ read.1)

lines_begin : (text part : List ℕ) (parts : List (List ℕ)) → slice_split is_newline text ≡ part ∷ parts → lines_of text ≡ strip_carriage_return part ∷ map strip_carriage_return parts
unfolding lines_of
lines_begin text part parts is = ap (map strip_carriage_return) is

-- a first byte that no line of a script has
pub no_first : (b : ℕ) (xs : List ℕ) (c : Contents) → is_newline b ≡ false → is_blank b ≡ false → nat_eq 35 b ≡ false → (b == 13) ≡ false → is_text_byte b ≡ false → read_script (b ∷ xs) ≢ Ok c
no_first b xs c newline blank comment return strange = λ is.
    let first = first_part is_newline b xs newline in
    let line = stripped b first.part return in
    let at = lines_begin (b ∷ xs) (b ∷ first.part) first.more first.is ∙ ap (λ (l : List ℕ). l ∷ map strip_carriage_return first.more) line.1 in
    let read = first_line (b ∷ xs) c (b ∷ line.0) (map strip_carriage_return first.more) is at in
    let text : is_text (b ∷ line.0) ≡ true = line_is_text (facts_of []) (b ∷ line.0) read.0 (not_passed b line.0 blank comment) read.1 in
    let no : false ≡ true = sym (ap (λ (test : Bool). test && list_all is_text_byte line.0) strange) ∙ text in
    absurd cc

-- three bytes are the first of a line, the third of which is no text
stripped_three : (part : List ℕ) → (rest : List ℕ) × (strip_carriage_return (77 ∷ 60 ∷ 178 ∷ part) ≡ 77 ∷ 60 ∷ 178 ∷ rest)
stripped_three [] = ([], refl)
stripped_three (x ∷ part) = at (slice_index (77 ∷ 60 ∷ 178 ∷ x ∷ part) (length (77 ∷ 60 ∷ 178 ∷ x ∷ part) - 1) == 13)
  where
    n : length (77 ∷ 60 ∷ 178 ∷ x ∷ part) - 1 ≡ suc (suc (suc (length part)))
    n = omega arith

    at : (test : Bool) → (rest : List ℕ) × ((if test then take (length (77 ∷ 60 ∷ 178 ∷ x ∷ part) - 1) (77 ∷ 60 ∷ 178 ∷ x ∷ part) else 77 ∷ 60 ∷ 178 ∷ x ∷ part) ≡ 77 ∷ 60 ∷ 178 ∷ rest)
    at true = (take (length part) (x ∷ part), ap (λ (k : ℕ). take k (77 ∷ 60 ∷ 178 ∷ x ∷ part)) n)
    at false = (x ∷ part, refl)

pub no_three : (xs : List ℕ) (c : Contents) → read_script (77 ∷ 60 ∷ 178 ∷ xs) ≢ Ok c
no_three xs c = λ is.
    let first = onto 178 (slice_split is_newline xs) in
    let split : slice_split is_newline (77 ∷ 60 ∷ 178 ∷ xs) ≡ (77 ∷ 60 ∷ 178 ∷ first.part) ∷ first.more = ap (λ (parts : List (List ℕ)). onto_first 77 (onto_first 60 parts)) first.is in
    let line = stripped_three first.part in
    let at = lines_begin (77 ∷ 60 ∷ 178 ∷ xs) (77 ∷ 60 ∷ 178 ∷ first.part) first.more split ∙ ap (λ (l : List ℕ). l ∷ map strip_carriage_return first.more) line.1 in
    let read = first_line (77 ∷ 60 ∷ 178 ∷ xs) c (77 ∷ 60 ∷ 178 ∷ line.0) (map strip_carriage_return first.more) is at in
    let text : is_text (77 ∷ 60 ∷ 178 ∷ line.0) ≡ true = line_is_text (facts_of []) (77 ∷ 60 ∷ 178 ∷ line.0) read.0 (not_passed 77 (60 ∷ 178 ∷ line.0) refl refl) read.1 in
    let no : false ≡ true = text in
    absurd cc
