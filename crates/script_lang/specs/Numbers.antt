-- The arguments that are numbers.
use Rattle.std.specs.Prelude.{ℕ, ◌*◌, List, length, Bool, ◌==◌, ◌&&◌, nat_le, Result, Ok, Err, if◌then◌else◌}
use Rattle.std.specs.List.{list_all}
use Rattle.std.specs.Char.{is_digit}
use Rattle.std.specs.Str.Parse.{digits_value}
use Rattle.script_lang.specs.declared.fault.ScriptCause.{ScriptCause}
use Rattle.script_lang.specs.declared.fault.ScriptCause.TheVariants.{Number, Ssrc}
use Rattle.script_lang.specs.Causes.{◌>>=◌}

-- one to twenty decimal digits
abbrev pub is_number : List ℕ → Bool
is_number word = nat_le 1 (length word) && nat_le (length word) 20 && list_all (λ c. is_digit c 10) word

-- the number that the digits write, where it is in a range
unfoldable pub number_in : ℕ → ℕ → List ℕ → Result ℕ ScriptCause
number_in least most word =
    if is_number word && nat_le least (digits_value 10 word) && nat_le (digits_value 10 word) most then Ok (digits_value 10 word) else Err Number

-- a millisecond in nanoseconds
abbrev pub millisecond : ℕ
millisecond = 1000000

-- a range of milliseconds, in nanoseconds
unfoldable pub time_in : ℕ → ℕ → List ℕ → Result ℕ ScriptCause
time_in least most word = do
  ms ← number_in least most word
  Ok (ms * millisecond)

-- eight hexadecimal digits in either case
abbrev pub is_ssrc : List ℕ → Bool
is_ssrc word = length word == 8 && list_all (λ c. is_digit c 16) word

unfoldable pub ssrc_in : List ℕ → Result ℕ ScriptCause
ssrc_in word = if is_ssrc word then Ok (digits_value 16 word) else Err Ssrc
