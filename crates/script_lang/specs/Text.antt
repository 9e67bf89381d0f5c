-- The lines of a text and the words of a line.
use Rattle.std.specs.Prelude.{ℕ, List, [], ◌∷◌, map, filter, length, codes, Bool, true, ◌==◌, ◌&&◌, ◌||◌, nat_le, nat_lt, nat_eq}
use Rattle.std.specs.List.{slice_split, list_all, starts_with}
use Rattle.std.specs.Str.Lines.{strip_carriage_return}

abbrev pub is_newline : ℕ → Bool
is_newline b = b == 10

-- What stands between newlines, less one carriage return at its end. Behind the last newline stands one line more, which may be empty.
unfoldable pub lines_of : List ℕ → List (List ℕ)
lines_of bytes = map strip_carriage_return (slice_split is_newline bytes)

-- a space or a tab
abbrev pub is_blank : ℕ → Bool
is_blank b = b == 32 || b == 9

-- what stands between blanks, where anything does
unfoldable pub words_of : List ℕ → List (List ℕ)
words_of line = filter (λ word. nat_lt 0 (length word)) (slice_split is_blank line)

-- a line without words, and a comment
abbrev pub is_passed_over : List (List ℕ) → Bool
is_passed_over [] = true
is_passed_over (word ∷ words) = starts_with nat_eq word (codes "#")

-- printable ASCII, and tabs
abbrev pub is_text_byte : ℕ → Bool
is_text_byte b = (nat_le 32 b && nat_le b 126) || b == 9

abbrev pub is_text : List ℕ → Bool
is_text line = list_all is_text_byte line
