-- The options of an interface block: a code and a length of two bytes each, and so many bytes, filled to four.
use Rattle.std.specs.Prelude.{ℕ, zero, suc, ◌+◌, ◌*◌, ◌/◌, List, [], ◌∷◌, length, take, drop, slice_index, Option, Some, None, option_map, nat_lt, ◌==◌, ◌&&◌, ◌||◌, not, true, false, Bool, if◌then◌else◌}
use Rattle.std.specs.Int.{w64, cast_signed}
use Rattle.pcap_file.specs.Numbers.{number_at}
use Rattle.pcap_file.specs.declared.order.Order.{Order}
use Rattle.pcapng_file.specs.declared.options.Said.{Said}

-- so many bytes, filled to a multiple of four
abbrev pub filled : ℕ → ℕ
filled n = (n + 3) / 4 * 4

pub record Opt : Type 0 where
  pub code : ℕ
  pub value : List ℕ

-- the options up to the end, which is code 0 or where no option can begin, and whether none passes the bytes
pub record Options : Type 0 where
  pub list : List Opt
  pub whole : Bool

abbrev pub with_first : Opt → Options → Options
with_first first options = record { list = first ∷ options.list; whole = options.whole }

-- an option takes four bytes at least, so as many steps as bytes serve
unfoldable pub options_within : Order → ℕ → List ℕ → Options
options_within order zero bytes = record { list = []; whole = true }
options_within order (suc steps) bytes =
    if nat_lt (length bytes) 4 || number_at order 2 0 bytes == 0 then record { list = []; whole = true }
    else if nat_lt (length bytes) (4 + filled (number_at order 2 2 bytes)) then record { list = []; whole = false }
    else with_first (record { code = number_at order 2 0 bytes; value = take (number_at order 2 2 bytes) (drop 4 bytes) })
    (options_within order steps (drop (4 + filled (number_at order 2 2 bytes)) bytes))

abbrev pub options_in : Order → List ℕ → Options
options_in order bytes = options_within order (length bytes) bytes

-- The time resolution, code 9, has one byte, and the time offset, code 14, eight.
abbrev pub fits : ℕ → ℕ → Bool
fits code size = (not (code == 9) || size == 1) && (not (code == 14) || size == 8)

abbrev pub all_fit : List Opt → Bool
all_fit [] = true
all_fit (o ∷ list) = fits o.code (length o.value) && all_fit list

-- the value of the first option with this code
abbrev pub value_of : ℕ → List Opt → Option (List ℕ)
value_of code [] = None
value_of code (o ∷ list) = if o.code == code then Some o.value else value_of code list

abbrev pub said_by : Order → List Opt → Said
said_by order list = record {
  resolution = option_map (λ (value : List ℕ). slice_index value 0) (value_of 9 list);
  seconds = option_map (λ (value : List ℕ). cast_signed w64 (number_at order 8 0 value)) (value_of 14 list);
}

-- what was said before, and where nothing was, what is said next
abbrev pub or_else : {A : Type 0} → Option A → Option A → Option A
or_else None next = next
or_else (Some x) next = Some x

abbrev pub also : Said → Said → Said
also said next = record { resolution = or_else said.resolution next.resolution; seconds = or_else said.seconds next.seconds }

abbrev pub also_option : Said → Option Said → Option Said
also_option said None = None
also_option said (Some next) = Some (also said next)

-- what options say, where each is whole and has its length
abbrev pub judged : Order → Options → Option Said
judged order options = if options.whole && all_fit options.list then Some (said_by order options.list) else None

unfoldable pub options_say : Order → List ℕ → Option Said
options_say order bytes = judged order (options_in order bytes)
