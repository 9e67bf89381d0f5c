-- Aggregation packets (STAP-A, RFC 6184, section 5.7.1): NAL units, each behind its size of 16 bits.
use Rattle.std.specs.Prelude.{◌≡◌, ◌<◌, ℕ, zero, suc, ◌+◌, ◌*◌, ◌==◌, ◌&&◌, true, not, is_some, nat_lt, nat_le, if◌then◌else◌, Bool, List, [], ◌∷◌, length, take, drop, slice_index, Option, Some, None, option_map, unwrap_or}

-- the size in the first two bytes, in network order
abbrev pub size_at : List ℕ → ℕ
size_at b = slice_index b 0 * 256 + slice_index b 1

-- The bytes begin with a size that isn't 0, and so many bytes follow it.
abbrev pub begins_unit : List ℕ → Bool
begins_unit b = nat_le 2 (length b) && nat_lt 0 (size_at b) && nat_le (size_at b) (length (drop 2 b))

-- the NAL unit that the bytes begin with, and what follows it
abbrev pub first_unit : List ℕ → List ℕ
first_unit b = take (size_at b) (drop 2 b)

abbrev pub after_unit : List ℕ → List ℕ
after_unit b = drop (size_at b) (drop 2 b)

abbrev pub in_front : List ℕ → List (List ℕ) → List (List ℕ)
in_front u units = u ∷ units

-- the NAL units that the bytes are made of, at most so many; None where the sizes don't fill the bytes
abbrev pub units_within : ℕ → List ℕ → Option (List (List ℕ))
units_within zero b = if length b == 0 then Some [] else None
units_within (suc n) b =
    if length b == 0 then Some []
    else if begins_unit b then option_map (in_front (first_unit b)) (units_within n (after_unit b))
    else None

-- each unit takes more than two bytes
abbrev pub units_in : List ℕ → Option (List (List ℕ))
units_in b = units_within (length b) b

-- There are bytes, and units fill them: no size is 0 or passes the end, and no single byte is left.
abbrev pub is_filled : List ℕ → Bool
is_filled b = not (length b == 0) && is_some (units_in b)

-- the NAL units of an aggregation packet, behind its first byte
abbrev pub units_of : List ℕ → List (List ℕ)
units_of payload = unwrap_or (units_in (drop 1 payload)) []

-- The bytes are one unit behind its size, and the rest.
pub record IsSplit (b first behind : List ℕ) : Type 0 where
  pub begins : begins_unit b ≡ true
  pub unit : first ≡ first_unit b
  pub rest : behind ≡ after_unit b
  pub shorter : length behind < length b
