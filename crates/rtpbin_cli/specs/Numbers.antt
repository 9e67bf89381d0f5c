-- The words that are numbers.
use Rattle.std.specs.Prelude.{ℕ, List, ◌&&◌, nat_le, if◌then◌else◌, Option, Some, None}
use Rattle.std.specs.Str.Parse.{digits_value}
use Rattle.script_lang.specs.Numbers.{is_number}

-- the number that one to twenty decimal digits write, where it is in a range
unfoldable pub number_in : ℕ → ℕ → List ℕ → Option ℕ
number_in least most word =
    if is_number word && nat_le least (digits_value 10 word) && nat_le (digits_value 10 word) most
    then Some (digits_value 10 word)
    else None
