-- The lines of a text.
use Rattle.std.proofs.Common.{◌≡◌, ◌<◌, ◌≤◌, ◌+◌, ◌-◌, ℕ, List, [], ◌∷◌, length, take, drop, map, true, false, Some, None, sym, ◌∙◌, ap, refl, arith, cond, nat_lt}
use Rattle.std.specs.Prelude.{position}
use Rattle.std.specs.List.{slice_split, position_or_len, before_first, after_first, All}
use Rattle.std.specs.Str.Lines.{strip_carriage_return}
use Rattle.std.proofs.lemmas.List.Splits.{slice_split_first, slice_split_none}
use Rattle.std.proofs.lemmas.Grind.{common_steps}
use Rattle.std.proofs.lemmas.Option.{cond_some, none-some}
use Rattle.std.proofs.lemmas.Bool.{ltb-true, ltb-false}
use Rattle.std.proofs.lemmas.List.Sums.{fails_before_first}
use Rattle.script_lang.specs.Text.{is_newline, lines_of}

-- where the first newline is
position_place : (text : List ℕ) (n : ℕ) → position is_newline text ≡ Some n → (n < length text) × (position_or_len is_newline text ≡ n)
position_place text n e =
    let found = cond_some (nat_lt (position_or_len is_newline text) (length text)) (position_or_len is_newline text) n e in
    (omega (arith, ltb-true (position_or_len is_newline text) (length text) found.0, found.1), found.1)

no_place_len : (text : List ℕ) → position is_newline text ≡ None → length text ≤ position_or_len is_newline text
no_place_len text e = elim (nat_lt (position_or_len is_newline text) (length text)) as (λ b. nat_lt (position_or_len is_newline text) (length text) ≡ b → length text ≤ position_or_len is_newline text) [
  | true ↦ λ h. absurd (none-some _ (sym e ∙ ap (λ b. cond b (Some (position_or_len is_newline text)) None) h))
  | false ↦ λ h. ltb-false (position_or_len is_newline text) (length text) h
] refl

no_place : (text : List ℕ) → position is_newline text ≡ None → All (λ x. is_newline x ≡ false) text
no_place text e = λ k d lt. fails_before_first is_newline text k d (omega (arith, no_place_len text e))

-- a text with a newline
pub lines_first : (text : List ℕ) (n : ℕ) → position is_newline text ≡ Some n
    → lines_of text ≡ strip_carriage_return (take n text) ∷ lines_of (take (length text - (n + 1)) (drop (n + 1) text))
unfolding lines_of
lines_first text n e =
    let place : (n < length text) × (position_or_len is_newline text ≡ n) = position_place text n e in
    let whole : take (length text - (n + 1)) (drop (n + 1) text) ≡ drop (n + 1) text = grind (arith, common_steps) in
    let within : position_or_len is_newline text < length text = omega arith in
    let split : slice_split is_newline text ≡ before_first is_newline text ∷ slice_split is_newline (after_first is_newline text) = slice_split_first is_newline text 0 within in
    rw whole (ap (map strip_carriage_return) split ∙ ap (λ k. strip_carriage_return (take k text) ∷ map strip_carriage_return (slice_split is_newline (drop (k + 1) text))) place.1)

-- a text without one
pub lines_only : (text : List ℕ) → position is_newline text ≡ None → lines_of text ≡ strip_carriage_return text ∷ []
unfolding lines_of
lines_only text e = ap (map strip_carriage_return) (slice_split_none is_newline text (no_place text e))
