-- What a line behind an `m=` line says.
use Rattle.std.specs.Prelude.{ℕ, List, [], ◌∷◌, codes, Bool, false, bytes_eq, ◌==◌, ◌&&◌, nat_le}
use Rattle.std.specs.Prelude.{option_map, unwrap_or, Option, Some, None, if◌then◌else◌}
use Rattle.std.specs.List.{slice_split, list_any}
use Rattle.std.specs.Char.{eq_ignore_ascii_case}
use Rattle.sdp_profile.specs.declared.attribute.Attribute.{Attribute}
use Rattle.sdp_profile.specs.declared.attribute.Attribute.TheVariants as attribute
use Rattle.sdp_profile.specs.declared.attribute.Placed.{Placed}
use Rattle.sdp_profile.specs.Text.{Line, behind, cut, front, less_spaces, first_of}
use Rattle.sdp_profile.specs.Numbers.{number_in, type_in, spaced_type_in}

-- a lower-case letter and `=`
abbrev pub is_statement : List ℕ → Bool
is_statement (letter ∷ equals ∷ value) = nat_le 97 letter && nat_le letter 122 && equals == 61
is_statement text = false

-- ---- `a=rtcp:PORT ..`

-- the port, or 0 where the word is no number or greater than 65536
abbrev pub rtcp_of : List ℕ → Attribute
rtcp_of value = attribute.Rtcp (unwrap_or (number_in 0 65536 (front 32 value)) 0)

-- ---- `a=rtpmap:TYPE NAME/RATE` and maybe `/..`

-- `rtx` in any case
abbrev pub is_rtx_name : List ℕ → Bool
is_rtx_name (r ∷ t ∷ x ∷ []) =
    eq_ignore_ascii_case r 114 && eq_ignore_ascii_case t 116 && eq_ignore_ascii_case x 120
is_rtx_name name = false

abbrev pub map_named : ℕ → List ℕ → List ℕ → Attribute
map_named pt name rate =
    if list_any (λ b. b == 32) name then attribute.Other
    else attribute.Map pt (is_rtx_name name) (number_in 1 1000000 (front 47 rate))

abbrev pub map_encoded : ℕ → Option (List ℕ × List ℕ) → Attribute
map_encoded pt None = attribute.Other
map_encoded pt (Some encoding) = map_named pt encoding.0 encoding.1

abbrev pub map_typed : Option ℕ → List ℕ → Attribute
map_typed None encoding = attribute.Other
map_typed (Some pt) encoding = map_encoded pt (cut 47 encoding)

abbrev pub map_parts : Option (List ℕ × List ℕ) → Attribute
map_parts None = attribute.Other
map_parts (Some parts) = map_typed (type_in parts.0) parts.1

abbrev pub map_of : List ℕ → Attribute
map_of value = map_parts (cut 32 value)

-- ---- `a=fmtp:TYPE PARAMETERS` with a parameter `apt=N`

-- what a parameter says of the original type, if it does
abbrev pub apt_in : List ℕ → Option (Option ℕ)
apt_in parameter = option_map spaced_type_in (behind (codes "apt=") (less_spaces parameter))

abbrev pub parameters_of : List ℕ → List (List ℕ)
parameters_of text = slice_split (λ b. b == 59) text

abbrev pub format_with : ℕ → Option (Option ℕ) → Attribute
format_with pt None = attribute.Other
format_with pt (Some apt) = attribute.Apt pt apt

abbrev pub format_typed : Option ℕ → List ℕ → Attribute
format_typed None parameters = attribute.Other
format_typed (Some pt) parameters = format_with pt (first_of apt_in (parameters_of parameters))

abbrev pub format_parts : Option (List ℕ × List ℕ) → Attribute
format_parts None = attribute.Other
format_parts (Some parts) = format_typed (type_in parts.0) parts.1

abbrev pub format_of : List ℕ → Attribute
format_of value = format_parts (cut 32 value)

-- ---- `a=ssrc-group:FID SSRC SSRC`

-- two numbers
abbrev pub pair_of_numbers : Option ℕ → Option ℕ → Attribute
pair_of_numbers (Some ssrc) (Some rtx_ssrc) = attribute.Pair ssrc rtx_ssrc
pair_of_numbers (Some ssrc) None = attribute.BadPair
pair_of_numbers None second = attribute.BadPair

abbrev pub ssrc_in : List ℕ → Option ℕ
ssrc_in word = number_in 0 4294967295 word

-- exactly two words
abbrev pub pair_parts : Option (List ℕ × List ℕ) → Attribute
pair_parts None = attribute.Other
pair_parts (Some words) =
    if list_any (λ b. b == 32) words.1 then attribute.Other
    else pair_of_numbers (ssrc_in words.0) (ssrc_in words.1)

abbrev pub pair_of : List ℕ → Attribute
pair_of value = pair_parts (cut 32 value)

-- ---- any line

abbrev pub or_else : {A B : Type 0} → (A → B) → Option A → B → B
or_else make (Some value) other = make value
or_else make None other = other

abbrev pub attribute_in : List ℕ → Attribute
attribute_in text =
    if bytes_eq text (codes "a=rtcp-mux") then attribute.Mux
    else or_else rtcp_of (behind (codes "a=rtcp:") text)
    (or_else map_of (behind (codes "a=rtpmap:") text)
    (or_else format_of (behind (codes "a=fmtp:") text)
    (or_else pair_of (behind (codes "a=ssrc-group:FID ") text) attribute.Other)))

unfoldable pub attribute_of : List ℕ → Attribute
attribute_of text = if is_statement text then attribute_in text else attribute.Malformed

abbrev pub placed_of : Line → Placed
placed_of l = record { line = l.number; attribute = attribute_of l.text }
