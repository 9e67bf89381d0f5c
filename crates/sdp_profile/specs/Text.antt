-- The lines of a description, and the parts of a line.
use Rattle.std.specs.Prelude.{ℕ, ◌+◌, ◌-◌, List, [], ◌∷◌, length, take, drop, filter, Bool, not}
use Rattle.std.specs.Prelude.{◌==◌, nat_lt, nat_eq, Option, Some, None, if◌then◌else◌}
use Rattle.std.specs.List.{slice_split, position_or_len}
use Rattle.std.specs.Option.{option_or}
use lib.Pointwise.{pointwise}
use Rattle.script_lang.specs.Text.{lines_of}

-- a line, and its number in the text
pub record Line : Type 0 where
  pub number : ℕ
  pub text : List ℕ

-- lines with numbers from this one on
abbrev pub numbered : ℕ → List (List ℕ) → List Line
numbered n [] = []
numbered n (text ∷ texts) = record { number = n; text = text } ∷ numbered (n + 1) texts

abbrev pub is_filled : Line → Bool
is_filled l = nat_lt 0 (length l.text)

-- the lines that aren't empty, which keep their numbers
unfoldable pub filled_lines : List ℕ → List Line
filled_lines bytes = filter is_filled (numbered 1 (lines_of bytes))

-- ---- parts of a line

-- what stands behind a text's first bytes, where they are these
abbrev pub behind : List ℕ → List ℕ → Option (List ℕ)
behind first text =
    if pointwise nat_eq (take (length first) text) first then Some (drop (length first) text)
    else None

-- the text less its last bytes, where they are these
abbrev pub less_end : List ℕ → List ℕ → List ℕ
less_end last text =
    if pointwise nat_eq (drop (length text - length last) text) last
    then take (length text - length last) text
    else text

-- the place of the first of these bytes, or the length of the text
abbrev pub place : ℕ → List ℕ → ℕ
place byte text = position_or_len (λ b. b == byte) text

-- what stands before the first of these bytes, or all
abbrev pub front : ℕ → List ℕ → List ℕ
front byte text = take (place byte text) text

-- the first of these bytes and what stands behind it, or nothing
abbrev pub back : ℕ → List ℕ → List ℕ
back byte text = drop (place byte text) text

-- what stands before and behind the first of these bytes, where there is one
abbrev pub cut : ℕ → List ℕ → Option (List ℕ × List ℕ)
cut byte text =
    if nat_lt (place byte text) (length text)
    then Some (front byte text, drop (place byte text + 1) text)
    else None

-- the text less the spaces that it begins with
abbrev pub less_spaces : List ℕ → List ℕ
less_spaces text = drop (position_or_len (λ b. not (b == 32)) text) text

-- words are separated by one space each
abbrev pub words_of : List ℕ → List (List ℕ)
words_of text = slice_split (λ b. b == 32) text

-- what a list's first element of some kind gives
abbrev pub first_of : {A B : Type 0} → (A → Option B) → List A → Option B
first_of kind [] = None
first_of kind (x ∷ xs) = option_or (kind x) (first_of kind xs)
