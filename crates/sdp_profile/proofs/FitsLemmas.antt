-- The values that lines give are in their ranges.
use Rattle.std.proofs.Common.{◌≡◌, ◌^◌, ℕ, List, [], ◌∷◌, map, Bool, true, false, ◌&&◌, Option, Some, None, refl, arith, nat_eq, nat_le, nat_lt}
use Rattle.std.specs.Prelude.{codes, bytes_eq, if◌then◌else◌, option_map}
use Rattle.std.specs.List.{list_all, list_any}
use Rattle.std.specs.Option.{option_or}
use Rattle.std.proofs.lemmas.Bool.Decides.{nat_tests}
use Rattle.script_lang.specs.Settings.{is_within}
use Rattle.sdp_profile.specs.declared.attribute.Attribute.{Attribute}
use Rattle.sdp_profile.specs.declared.attribute.Attribute.TheVariants as attribute
use Rattle.sdp_profile.specs.declared.attribute.Placed.{Placed}
use Rattle.sdp_profile.specs.Text.{Line, behind, cut, front, back, less_spaces, first_of}
use Rattle.sdp_profile.specs.Numbers.{number_in, type_in, spaced_type_in}
use Rattle.sdp_profile.specs.Attributes.{is_statement, rtcp_of, map_named, map_encoded, map_typed, map_parts, map_of, is_rtx_name, apt_in, parameters_of, format_with, format_typed, format_parts, format_of, pair_of_numbers, pair_parts, pair_of, ssrc_in, or_else, attribute_in, attribute_of, placed_of}
use Rattle.sdp_profile.proofs.ListLemmas.{true_both}
use Rattle.sdp_profile.proofs.NumberLemmas.{number_within}

abbrev pub rate_fits : Option ℕ → Bool
rate_fits None = true
rate_fits (Some rate) = is_within 1 1000000 rate

abbrev pub type_fits : Option ℕ → Bool
type_fits None = true
type_fits (Some pt) = nat_le pt 127

abbrev pub is_32 : ℕ → Bool
is_32 n = nat_lt n (2 ^ 32)

abbrev pub attribute_fits : Attribute → Bool
attribute_fits (attribute.Map pt is_rtx rate) = rate_fits rate
attribute_fits (attribute.Apt pt apt) = type_fits apt
attribute_fits (attribute.Pair ssrc rtx_ssrc) = is_32 ssrc && is_32 rtx_ssrc
attribute_fits a = true

abbrev pub placed_fits : Placed → Bool
placed_fits l = attribute_fits l.attribute

rate_in : (o : Option ℕ) (w : List ℕ) → number_in 1 1000000 w ≡ o → rate_fits o ≡ true
rate_in None w e = refl
rate_in (Some rate) w e = let h = number_within 1 1000000 w rate e in true_both _ _ h.0 h.1

pub type_in_fits : (o : Option ℕ) (w : List ℕ) → number_in 0 127 w ≡ o → type_fits o ≡ true
type_in_fits None w e = refl
type_in_fits (Some pt) w e = (number_within 0 127 w pt e).1

spaced_fits : (b : Bool) (o : Option ℕ) → type_fits o ≡ true → type_fits (if b then o else None) ≡ true
spaced_fits true o h = h
spaced_fits false o h = refl

map_named_fits : (pt : ℕ) (name rate : List ℕ) → attribute_fits (map_named pt name rate) ≡ true
map_named_fits pt name rate =
    elim (list_any (λ b. nat_eq b 32) name) as (λ t. attribute_fits (if t then attribute.Other else attribute.Map pt (is_rtx_name name) (number_in 1 1000000 (front 47 rate))) ≡ true) [
      | true ↦ refl
      | false ↦ rate_in (number_in 1 1000000 (front 47 rate)) (front 47 rate) refl
    ]

map_encoded_fits : (pt : ℕ) (o : Option (List ℕ × List ℕ)) → attribute_fits (map_encoded pt o) ≡ true
map_encoded_fits pt None = refl
map_encoded_fits pt (Some encoding) = map_named_fits pt encoding.0 encoding.1

map_typed_fits : (o : Option ℕ) (encoding : List ℕ) → attribute_fits (map_typed o encoding) ≡ true
map_typed_fits None encoding = refl
map_typed_fits (Some pt) encoding = map_encoded_fits pt (cut 47 encoding)

map_parts_fits : (o : Option (List ℕ × List ℕ)) → attribute_fits (map_parts o) ≡ true
map_parts_fits None = refl
map_parts_fits (Some parts) = map_typed_fits (type_in parts.0) parts.1

-- what is said of an original type is a payload type
abbrev pub said_fits : Option (Option ℕ) → Bool
said_fits None = true
said_fits (Some apt) = type_fits apt

apt_in_fits : (o : Option (List ℕ)) → said_fits (option_map spaced_type_in o) ≡ true
apt_in_fits None = refl
apt_in_fits (Some text) = spaced_fits (list_all (λ b. nat_eq b 32) (back 32 text)) (type_in (front 32 text)) (type_in_fits (type_in (front 32 text)) (front 32 text) refl)

first_fits : (o : Option (Option ℕ)) (rest : Option (Option ℕ)) → said_fits o ≡ true → said_fits rest ≡ true → said_fits (option_or o rest) ≡ true
first_fits None rest h k = k
first_fits (Some apt) rest h k = h

first_apt_fits : (ps : List (List ℕ)) → said_fits (first_of apt_in ps) ≡ true
first_apt_fits [] = refl
first_apt_fits (p ∷ ps) = first_fits (apt_in p) (first_of apt_in ps) (apt_in_fits (behind (codes "apt=") (less_spaces p))) (first_apt_fits ps)

format_with_fits : (pt : ℕ) (o : Option (Option ℕ)) → said_fits o ≡ true → attribute_fits (format_with pt o) ≡ true
format_with_fits pt None h = refl
format_with_fits pt (Some apt) h = h

format_typed_fits : (o : Option ℕ) (parameters : List ℕ) → attribute_fits (format_typed o parameters) ≡ true
format_typed_fits None parameters = refl
format_typed_fits (Some pt) parameters = format_with_fits pt (first_of apt_in (parameters_of parameters)) (first_apt_fits (parameters_of parameters))

format_parts_fits : (o : Option (List ℕ × List ℕ)) → attribute_fits (format_parts o) ≡ true
format_parts_fits None = refl
format_parts_fits (Some parts) = format_typed_fits (type_in parts.0) parts.1

ssrc_fits : (w : List ℕ) (n : ℕ) → number_in 0 4294967295 w ≡ Some n → is_32 n ≡ true
ssrc_fits w n e = let h = (number_within 0 4294967295 w n e).1 in grind (arith, nat_tests)

pair_fits : (a b : Option ℕ) (v w : List ℕ) → ssrc_in v ≡ a → ssrc_in w ≡ b → attribute_fits (pair_of_numbers a b) ≡ true
pair_fits (Some m) (Some n) v w e f = true_both _ _ (ssrc_fits v m e) (ssrc_fits w n f)
pair_fits (Some m) None v w e f = refl
pair_fits None b v w e f = refl

pair_parts_fits : (o : Option (List ℕ × List ℕ)) → attribute_fits (pair_parts o) ≡ true
pair_parts_fits None = refl
pair_parts_fits (Some words) =
    elim (list_any (λ b. nat_eq b 32) words.1) as (λ t. attribute_fits (if t then attribute.Other else pair_of_numbers (ssrc_in words.0) (ssrc_in words.1)) ≡ true) [
      | true ↦ refl
      | false ↦ pair_fits (ssrc_in words.0) (ssrc_in words.1) words.0 words.1 refl refl
    ]

or_else_fits : (make : List ℕ → Attribute) (o : Option (List ℕ)) (other : Attribute) → ((value : List ℕ) → attribute_fits (make value) ≡ true) → attribute_fits other ≡ true → attribute_fits (or_else make o other) ≡ true
or_else_fits make None rest each h = h
or_else_fits make (Some value) rest each h = each value

choice_fits : (b : Bool) (x y : Attribute) → attribute_fits x ≡ true → attribute_fits y ≡ true → attribute_fits (if b then x else y) ≡ true
choice_fits true x y h k = h
choice_fits false x y h k = k

attribute_in_fits : (text : List ℕ) → attribute_fits (attribute_in text) ≡ true
attribute_in_fits text =
    choice_fits (bytes_eq text (codes "a=rtcp-mux")) _ _ refl
    (or_else_fits rtcp_of (behind (codes "a=rtcp:") text) _ (λ value. refl)
    (or_else_fits map_of (behind (codes "a=rtpmap:") text) _ (λ value. map_parts_fits (cut 32 value))
    (or_else_fits format_of (behind (codes "a=fmtp:") text) _ (λ value. format_parts_fits (cut 32 value))
    (or_else_fits pair_of (behind (codes "a=ssrc-group:FID ") text) _ (λ value. pair_parts_fits (cut 32 value)) refl))))

attribute_of_fits : (text : List ℕ) → attribute_fits (attribute_of text) ≡ true
unfolding attribute_of
attribute_of_fits text = choice_fits (is_statement text) _ _ (attribute_in_fits text) refl

-- all that lines say is in its range
pub lines_fit : (lines : List Line) → list_all placed_fits (map placed_of lines) ≡ true
lines_fit [] = refl
lines_fit (l ∷ lines) = true_both (attribute_fits (attribute_of l.text)) _ (attribute_of_fits l.text) (lines_fit lines)
