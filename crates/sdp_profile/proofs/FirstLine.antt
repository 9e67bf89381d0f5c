-- What the texts begin with: so neither begins a capture.
use Rattle.std.proofs.Common.{◌≡◌, ◌≢◌, ℕ, suc, ◌-◌, Bool, true, false, List, [], ◌∷◌, length}
use Rattle.std.proofs.Common.{take, map, Option, Some, None, Result, Ok, Err, cond, refl, sym, ap}
use Rattle.std.proofs.Common.{◌∙◌, arith}
use Rattle.std.specs.Prelude.{nat_lt, nat_eq, ◌==◌, ◌&&◌, if◌then◌else◌, filter, slice_index}
use Rattle.std.specs.Prelude.{bytes_eq, codes, is_ok}
use Rattle.std.specs.List.{slice_split, onto_first, list_all}
use Rattle.std.specs.Str.Lines.{strip_carriage_return}
use Rattle.std.proofs.lemmas.Bool.{lt-ltb}
use Rattle.script_lang.specs.declared.fault.ScriptCause.{ScriptCause}
use Rattle.script_lang.specs.declared.fault.ScriptCause.TheVariants as cause
use Rattle.script_lang.specs.declared.fault.ScriptFault.{ScriptFault}
use Rattle.script_lang.specs.declared.fault.ScriptFault.TheVariants.{Bad}
use Rattle.script_lang.specs.declared.script.SessionLine.{SessionLine}
use Rattle.script_lang.specs.Causes.{◌>>=◌}
use Rattle.script_lang.specs.Text.{lines_of, words_of, is_passed_over, is_text, is_text_byte}
use Rattle.script_lang.specs.Text.{is_newline, is_blank}
use Rattle.script_lang.specs.Forms.{form_of}
use Rattle.script_lang.specs.Facts.{Facts, Placed, facts_of}
use Rattle.script_lang.specs.Contents.{Contents}
use Rattle.script_lang.specs.Grammar.{line_behind, entry_in_line, entry_of_form, closed, go_on}
use Rattle.script_lang.specs.Times.{has_place, times_line_behind, times_behind, declared_before}
use Rattle.script_lang.specs.Times.{script_of_times}
use Rattle.sdp_profile.specs.declared.fault.Fault.{Fault}
use Rattle.sdp_profile.specs.Text.{Line, numbered, is_filled, filled_lines}
use Rattle.sdp_profile.specs.Sections.{Described}
use Rattle.sdp_profile.specs.Descriptions.{description_of, described, described_behind}
use Rattle.sdp_profile.specs.Scripts.{described_script, with_description, with_times}

-- ---- the first line of a text

-- the first part of a split
record FirstPart (b : ℕ) (parts : List (List ℕ)) : Type 0 where
  part : List ℕ
  more : List (List ℕ)
  is : parts ≡ (b ∷ part) ∷ more

onto : (b : ℕ) (parts : List (List ℕ)) → FirstPart b (onto_first b parts)
onto b [] = record { part = []; more = []; is = refl }
onto b (part ∷ parts) = record { part = part; more = parts; is = refl }

first_part : (p : ℕ → Bool) (b : ℕ) (xs : List ℕ) → p b ≡ false
    → FirstPart b (slice_split p (b ∷ xs))
first_part p b xs other =
    let at = onto b (slice_split p xs) in
    record {
      part = at.part;
      more = at.more;
      is =
          ap (λ (test : Bool). cond test ([] ∷ slice_split p xs) (onto_first b (slice_split p xs)))
          other
          ∙ at.is;
    }

-- a carriage return that is stripped is not the first byte
stripped : (b : ℕ) (part : List ℕ) → (b == 13) ≡ false
    → (rest : List ℕ) × (strip_carriage_return (b ∷ part) ≡ b ∷ rest)
stripped b [] other =
    ([], ap (λ (test : Bool). if test then take (length (b ∷ []) - 1) (b ∷ []) else b ∷ []) other)
stripped b (x ∷ part) other =
    at (slice_index (b ∷ x ∷ part) (length (b ∷ x ∷ part) - 1) == 13)
  where
    n : length (b ∷ x ∷ part) - 1 ≡ suc (length part)
    n = omega arith

    at : (test : Bool) → (rest : List ℕ) × ((if test
        then take (length (b ∷ x ∷ part) - 1) (b ∷ x ∷ part) else b ∷ x ∷ part) ≡ b ∷ rest)
    at true = (take (length part) (x ∷ part), ap (λ (k : ℕ). take k (b ∷ x ∷ part)) n)
    at false = (x ∷ part, refl)

-- a text and its lines, the first of which begins with a byte
record FirstLine (b : ℕ) (text : List ℕ) : Type 0 where
  rest : List ℕ
  more : List (List ℕ)
  is : lines_of text ≡ (b ∷ rest) ∷ more

first_line : (b : ℕ) (xs : List ℕ) → is_newline b ≡ false → (b == 13) ≡ false
    → FirstLine b (b ∷ xs)
unfolding lines_of
first_line b xs newline return =
    let first = first_part is_newline b xs newline in
    let line = stripped b first.part return in
    record {
      rest = line.0;
      more = map strip_carriage_return first.more;
      is =
          ap (map strip_carriage_return) first.is
          ∙ ap (λ (l : List ℕ). l ∷ map strip_carriage_return first.more) line.1;
    }

-- ---- a description

size_ok : {A C : Type 0} (big : Bool) (c : C) (r : Result A C) (a : A)
    → (if big then Err c else r) ≡ Ok a → r ≡ Ok a
size_ok true c r a is = absurd cc
size_ok false c r a is = is

version_ok : {A C : Type 0} (version : Bool) (c : C) (r : Result A C) (a : A)
    → (if version then r else Err c) ≡ Ok a → version ≡ true
version_ok true c r a is = refl
version_ok false c r a is = absurd cc

described_ok : (sdp times : List ℕ) (c : Contents) → described_script sdp times ≡ Ok c
    → (d : Described) × (description_of sdp ≡ Ok d)
    × ((k : Contents) × (script_of_times d.sessions times ≡ Ok k))
unfolding described_script
described_ok sdp times c is = at (description_of sdp) is
  where
    behind : (d : Described) (read : Result Contents ScriptFault) → with_times d read ≡ Ok c
        → (k : Contents) × (read ≡ Ok k)
    behind d (Ok k) e = (k, refl)
    behind d (Err fault) e = absurd cc

    at : (read : Result Described Fault) → with_description read times ≡ Ok c
        → (d : Described) × (read ≡ Ok d)
        × ((k : Contents) × (script_of_times d.sessions times ≡ Ok k))
    at (Ok d) e = (d, refl, behind d (script_of_times d.sessions times) e)
    at (Err fault) e = absurd cc

-- a line behind none that is filled
filled_first : (b : ℕ) (rest : List ℕ) (more : List (List ℕ))
    → filter is_filled (numbered 1 ((b ∷ rest) ∷ more))
    ≡ record { number = 1; text = b ∷ rest } ∷ filter is_filled (numbered 2 more)
filled_first b rest more =
    let filled : nat_lt 0 (length (b ∷ rest)) ≡ true =
    lt-ltb 0 (length (b ∷ rest)) (omega arith) in
    ap (λ (test : Bool). cond test (record { number = 1; text = b ∷ rest }
    ∷ filter is_filled (numbered 2 more)) (filter is_filled (numbered 2 more))) filled

first_is_version : (text : List ℕ) (d : Described) (l : Line) (lines : List Line)
    → description_of text ≡ Ok d → filled_lines text ≡ l ∷ lines
    → bytes_eq l.text (codes "v=0") ≡ true
unfolding description_of
first_is_version text d l lines is at =
    let read = size_ok _ _ (described_behind (filled_lines text)) d is in
    version_ok (bytes_eq l.text (codes "v=0")) _ (described lines) d
    (sym (ap described_behind at) ∙ read)

pub no_description : (b : ℕ) (xs times : List ℕ) (c : Contents) → is_newline b ≡ false
    → (b == 13) ≡ false → (b == 118) ≡ false → described_script (b ∷ xs) times ≢ Ok c
unfolding filled_lines
no_description b xs times c newline return other = λ is.
    let read = described_ok (b ∷ xs) times c is in
    let line = first_line b xs newline return in
    let at : filled_lines (b ∷ xs) ≡ record { number = 1; text = b ∷ line.rest }
    ∷ filter is_filled (numbered 2 line.more) =
    ap (λ (lines : List (List ℕ)). filter is_filled (numbered 1 lines)) line.is
    ∙ filled_first b line.rest line.more in
    let version = first_is_version (b ∷ xs) read.0 _ _ read.1 at in
    let no : false ≡ true =
    sym (ap (λ (test : Bool). test && bytes_eq line.rest (codes "=0")) other) ∙ version in
    absurd cc

pub no_section_described : (xs times : List ℕ) (c : Contents)
    → described_script (10 ∷ 13 ∷ 13 ∷ 10 ∷ xs) times ≢ Ok c
unfolding filled_lines lines_of
no_section_described xs times c = λ is.
    let read = described_ok (10 ∷ 13 ∷ 13 ∷ 10 ∷ xs) times c is in
    let version = first_is_version (10 ∷ 13 ∷ 13 ∷ 10 ∷ xs) read.0 _ _ read.1 refl in
    let no : false ≡ true = version in
    absurd cc

-- ---- settings and timed lines

-- a line that begins with something else than a blank and the sign of a comment
not_passed : (b : ℕ) (line : List ℕ) → is_blank b ≡ false → nat_eq 35 b ≡ false
    → is_passed_over (words_of (b ∷ line)) ≡ false
unfolding words_of
not_passed b line blank other =
    let first = first_part is_blank b line blank in
    let some : nat_lt 0 (length (b ∷ first.part)) ≡ true =
    lt-ltb 0 (length (b ∷ first.part)) (omega arith) in
    let keep : List ℕ → Bool = λ word. nat_lt 0 (length word) in
    ap (λ (parts : List (List ℕ)). is_passed_over (filter keep parts)) first.is
    ∙ ap (λ (test : Bool). is_passed_over (cond test
    ((b ∷ first.part) ∷ filter keep first.more) (filter keep first.more))) some
    ∙ ap (λ (test : Bool). test && true) other

text_ok : {E : Type 0} (over text : Bool) (said : Result E ScriptCause) → over ≡ false
    → is_ok (if over then Ok None
    else ((if text then said else Err cause.Text) >>= λ entry. Ok (Some entry))) ≡ true
    → text ≡ true
text_ok true text said over is = absurd cc
text_ok false true said over is = refl
text_ok false false said over is = absurd cc

line_is_text : (facts : Facts) (line : List ℕ) → is_passed_over (words_of line) ≡ false
    → is_ok (times_line_behind facts line) ≡ true → is_text line ≡ true
unfolding times_line_behind line_behind entry_in_line
line_is_text facts line over is = at (has_place line) is
  where
    at : (place : Bool)
        → is_ok (if place then line_behind facts line else Err cause.Word) ≡ true
        → is_text line ≡ true
    at true is' =
        text_ok (is_passed_over (words_of line)) (is_text line)
        (entry_of_form facts (form_of (words_of line))) over is'
    at false is' = absurd cc

then_ok : {A B C : Type 0} (r : Result A C) (f : A → Result B C) (b : B) → (r >>= f) ≡ Ok b
    → (a : A) × (r ≡ Ok a)
then_ok (Ok a) f b is = (a, refl)
then_ok (Err c) f b is = absurd cc

went_on : (behind : List Placed → Result (List Placed) ScriptFault) (n : ℕ)
    (earlier : List Placed) (r : Result (Option _) ScriptCause) (p : List Placed)
    → go_on behind n earlier r ≡ Ok p → is_ok r ≡ true
went_on behind n earlier (Ok e) p is = refl
went_on behind n earlier (Err c) p is = absurd cc

first_of_times : (sessions : List SessionLine) (text : List ℕ) (c : Contents) (line : List ℕ)
    (lines : List (List ℕ)) → script_of_times sessions text ≡ Ok c → lines_of text ≡ line ∷ lines
    → is_ok (times_line_behind (facts_of (declared_before sessions)) line) ≡ true
unfolding script_of_times times_behind
first_of_times sessions text c line lines is at =
    let earlier = declared_before sessions in
    let read = then_ok (times_behind 1 earlier (lines_of text)) (λ placed. closed (facts_of placed))
    c (size_ok _ _ _ c is) in
    went_on (λ placed. times_behind 2 placed lines) 1 earlier
    (times_line_behind (facts_of earlier) line) read.0
    (sym (ap (times_behind 1 earlier) at) ∙ read.1)

-- a first byte that no line has
pub no_times : (b : ℕ) (sdp xs : List ℕ) (c : Contents) → is_newline b ≡ false
    → is_blank b ≡ false → nat_eq 35 b ≡ false → (b == 13) ≡ false → is_text_byte b ≡ false
    → described_script sdp (b ∷ xs) ≢ Ok c
no_times b sdp xs c newline blank comment return strange = λ is.
    let read = described_ok sdp (b ∷ xs) c is in
    let line = first_line b xs newline return in
    let said = first_of_times read.0.sessions (b ∷ xs) read.2.0 (b ∷ line.rest) line.more
    read.2.1 line.is in
    let text : is_text (b ∷ line.rest) ≡ true =
    line_is_text _ (b ∷ line.rest) (not_passed b line.rest blank comment) said in
    let no : false ≡ true =
    sym (ap (λ (test : Bool). test && list_all is_text_byte line.rest) strange) ∙ text in
    absurd cc

-- three bytes are the first of a line, the third of which is no text
stripped_three : (part : List ℕ)
    → (rest : List ℕ) × (strip_carriage_return (77 ∷ 60 ∷ 178 ∷ part) ≡ 77 ∷ 60 ∷ 178 ∷ rest)
stripped_three [] = ([], refl)
stripped_three (x ∷ part) =
    at (slice_index (77 ∷ 60 ∷ 178 ∷ x ∷ part) (length (77 ∷ 60 ∷ 178 ∷ x ∷ part) - 1) == 13)
  where
    n : length (77 ∷ 60 ∷ 178 ∷ x ∷ part) - 1 ≡ suc (suc (suc (length part)))
    n = omega arith

    at : (test : Bool) → (rest : List ℕ) × ((if test
        then take (length (77 ∷ 60 ∷ 178 ∷ x ∷ part) - 1) (77 ∷ 60 ∷ 178 ∷ x ∷ part)
        else 77 ∷ 60 ∷ 178 ∷ x ∷ part) ≡ 77 ∷ 60 ∷ 178 ∷ rest)
    at true =
        (take (length part) (x ∷ part), ap (λ (k : ℕ). take k (77 ∷ 60 ∷ 178 ∷ x ∷ part)) n)
    at false = (x ∷ part, refl)

pub no_nano_times : (sdp xs : List ℕ) (c : Contents)
    → described_script sdp (77 ∷ 60 ∷ 178 ∷ xs) ≢ Ok c
unfolding lines_of
no_nano_times sdp xs c = λ is.
    let read = described_ok sdp (77 ∷ 60 ∷ 178 ∷ xs) c is in
    let first = onto 178 (slice_split is_newline xs) in
    let line = stripped_three first.part in
    let at : lines_of (77 ∷ 60 ∷ 178 ∷ xs)
    ≡ (77 ∷ 60 ∷ 178 ∷ line.0) ∷ map strip_carriage_return first.more =
    ap (λ (parts : List (List ℕ)). map strip_carriage_return (onto_first 77 (onto_first 60 parts)))
    first.is
    ∙ ap (λ (l : List ℕ). l ∷ map strip_carriage_return first.more) line.1 in
    let said = first_of_times read.0.sessions (77 ∷ 60 ∷ 178 ∷ xs) read.2.0
    (77 ∷ 60 ∷ 178 ∷ line.0) (map strip_carriage_return first.more) read.2.1 at in
    let text : is_text (77 ∷ 60 ∷ 178 ∷ line.0) ≡ true =
    line_is_text _ (77 ∷ 60 ∷ 178 ∷ line.0) (not_passed 77 (60 ∷ 178 ∷ line.0) refl refl) said in
    let no : false ≡ true = text in
    absurd cc

-- the second line is a carriage return
refused : {A C : Type 0} (big : Bool) (r s : Result A C) (a : A) → r ≢ Ok a → s ≢ Ok a
    → (if big then r else s) ≢ Ok a
refused true r s a e f is = e is
refused false r s a e f is = f is

no_section_of_times : (sessions : List SessionLine) (xs : List ℕ) (c : Contents)
    → script_of_times sessions (10 ∷ 13 ∷ 13 ∷ 10 ∷ xs) ≢ Ok c
unfolding script_of_times lines_of times_behind times_line_behind line_behind words_of entry_in_line
no_section_of_times sessions xs c is =
    refused (nat_lt 1048576 (length (10 ∷ 13 ∷ 13 ∷ 10 ∷ xs))) (Err (Bad 0 cause.Size))
    (Err (Bad 2 cause.Text)) c (λ e. cc) (λ e. cc) is

pub no_section_times : (sdp xs : List ℕ) (c : Contents)
    → described_script sdp (10 ∷ 13 ∷ 13 ∷ 10 ∷ xs) ≢ Ok c
no_section_times sdp xs c = λ is.
    let read = described_ok sdp (10 ∷ 13 ∷ 13 ∷ 10 ∷ xs) c is in
    no_section_of_times read.0.sessions xs read.2.0 read.2.1
