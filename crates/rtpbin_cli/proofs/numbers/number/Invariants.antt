use Rattle.std.proofs.Common.{◌≡◌, drop}
use Rattle.std.specs.List.{list_all}
use Rattle.std.specs.Char.{is_digit}
use Rattle.std.specs.Str.Parse.{digits_value_after, digits_value}
use Rattle.rtpbin_cli.proofs.numbers.number.Given as goal

-- the digits that are left complete the number, and all digits so far were digits
abbrev pub invariant-loop-byte : goal.invariant-loop-byte
invariant-loop-byte l =
    (digits_value_after 10 l.value (drop l.byte-index l.word) ≡ digits_value 10 l.word)
    × (list_all (λ c. is_digit c 10) (drop l.byte-index l.word) ≡ list_all (λ c. is_digit c 10) l.word)
