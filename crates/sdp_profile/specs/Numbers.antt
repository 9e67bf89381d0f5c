-- The numbers of a description: one to twenty decimal digits.
use Rattle.std.specs.Prelude.{ℕ, List, ◌==◌, ◌&&◌, nat_le, Option, Some, None, if◌then◌else◌}
use Rattle.std.specs.List.{list_all}
use Rattle.std.specs.Str.Parse.{digits_value}
use Rattle.script_lang.specs.Numbers.{is_number}
use Rattle.sdp_profile.specs.Text.{front, back}

-- the number that the digits write, where it is in a range
unfoldable pub number_in : ℕ → ℕ → List ℕ → Option ℕ
number_in least most word =
    if is_number word && nat_le least (digits_value 10 word) && nat_le (digits_value 10 word) most
    then Some (digits_value 10 word)
    else None

-- a payload type
abbrev pub type_in : List ℕ → Option ℕ
type_in word = number_in 0 127 word

-- a payload type with nothing but spaces behind it
abbrev pub spaced_type_in : List ℕ → Option ℕ
spaced_type_in text =
    if list_all (λ b. b == 32) (back 32 text) then type_in (front 32 text) else None
