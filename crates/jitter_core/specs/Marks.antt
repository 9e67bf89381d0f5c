-- The heights that a buffer keeps, the greatest first.
use Rattle.std.specs.Prelude.{ℕ, ◌+◌, ◌==◌, ◌&&◌, ◌^◌, ◌≤◌, ◌<◌, Bool, false, List, [], ◌∷◌, Option, Some, None, nat_le, length, slice_index_or, if◌then◌else◌}
use Rattle.jitter_model.specs.declared.Mark.{Mark}
use Rattle.jitter_model.specs.Times.{expected, expected_below}
use Rattle.jitter_model.specs.Requests.{spacing, is_spacing}

-- a height before these
abbrev pub from_mark : Option ℕ → Mark → List Mark → List Mark
from_mark None m ms = m ∷ ms
from_mark (Some next) m ms = if nat_le m.number next then m ∷ [] else m ∷ ms

-- the heights, the greatest first, down to the first one that isn't above the next number
abbrev pub kept : Option ℕ → List Mark → List Mark
kept next [] = []
kept next (m ∷ ms) = from_mark next m (kept next ms)

-- the greatest height, and of those before it the ones down to the first that isn't above the next number: so the last two are always there
abbrev pub kept_two : Option ℕ → List Mark → List Mark
kept_two next [] = []
kept_two next (m ∷ ms) = m ∷ kept next ms

-- these heights once they are all before another one
abbrev pub before_another : Option ℕ → List Mark → List Mark
before_another next [] = []
before_another next (m ∷ ms) = from_mark next m ms

-- the heights after one more packet, which may be one
abbrev pub with_mark : Option ℕ → Option Mark → List Mark → List Mark
with_mark next None ms = ms
with_mark next (Some m) ms = m ∷ before_another next ms

-- whether a number is one above the latest of these heights
abbrev pub is_next_mark : List Mark → ℕ → Bool
is_next_mark [] n = false
is_next_mark (m ∷ ms) n = n == m.number + 1

-- when the packet after the greatest number is due by the spacing of the last two heights, where that number is the latest one's
abbrev pub next_time : ℕ → List Mark → Option ℕ
next_time top [] = None
next_time top (b ∷ []) = None
next_time top (b ∷ a ∷ ms) = if b.number == top && is_spacing (spacing a b) then Some (b.pts + spacing a b) else None

-- the expected time of n below this height, or below none
abbrev pub expected_after : Option Mark → List Mark → ℕ → ℕ
expected_after None ms n = expected ms n
expected_after (Some b) ms n = expected_below b ms n

-- heights of which each is greater than those after it
abbrev pub AreMarksFalling : List Mark → Type 0
AreMarksFalling ms = (i j : ℕ) (d : Mark) → i < j → j < length ms → (slice_index_or ms j d).number < (slice_index_or ms i d).number

-- heights with times below 2^63 and numbers up to 2^62
abbrev pub AreMarksBounded : List Mark → Type 0
AreMarksBounded ms = (i : ℕ) (d : Mark) → i < length ms → (slice_index_or ms i d).pts < 2 ^ 63 × (slice_index_or ms i d).number ≤ 2 ^ 62
