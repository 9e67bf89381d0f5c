-- Numbers, digit by digit.
use Rattle.std.proofs.Common.{◌≡◌, ◌<◌, ◌≤◌, ◌+◌, ◌-◌, ◌*◌, nat_le, ℕ, List, [], ◌∷◌, length, get_or, drop, Bool, true, false, ◌&&◌, Some, None, sym, ◌∙◌, ap, refl, arith}
use Rattle.std.proofs.lemmas.List.{at_drop_more}
use Rattle.std.proofs.lemmas.Bool.Decides.{nat_tests}
use Rattle.std.specs.List.{list_all}
use Rattle.std.specs.Char.{is_digit, digit_value, is_ascii_digit}
use Rattle.std.specs.Str.Parse.{digits_value_after, digits_value}
use Rattle.std.specs.Prelude.{if◌then◌else◌}
use Rattle.script_lang.specs.Numbers.{is_number}
use Rattle.sdp_profile.specs.Numbers.{number_in}

-- one digit more
pub value_step : (radix v whole : ℕ) (w : List ℕ) (i d : ℕ) → i < length w → d ≡ digit_value (get_or w i 0)
    → digits_value_after radix v (drop i w) ≡ whole → digits_value_after radix (v * radix + d) (drop (i + 1) w) ≡ whole
value_step radix v whole w i d lt e h =
    ap (λ n. digits_value_after radix (v * radix + n) (drop (i + 1) w)) e ∙ sym (at_drop_more (digits_value_after radix v) w i 0 lt) ∙ h

pub all_step : (p : ℕ → Bool) (whole : Bool) (w : List ℕ) (i : ℕ) → i < length w → p (get_or w i 0) ≡ true
    → list_all p (drop i w) ≡ whole → list_all p (drop (i + 1) w) ≡ whole
all_step p whole w i lt e h =
    sym (ap (λ b. b && list_all p (drop (i + 1) w)) e) ∙ sym (at_drop_more (list_all p) w i 0 lt) ∙ h

pub all_stop : (p : ℕ → Bool) (whole : Bool) (w : List ℕ) (i : ℕ) → i < length w → p (get_or w i 0) ≡ false
    → list_all p (drop i w) ≡ whole → whole ≡ false
all_stop p whole w i lt e h =
    sym h ∙ at_drop_more (list_all p) w i 0 lt ∙ ap (λ b. b && list_all p (drop (i + 1) w)) e

-- a decimal digit
pub decimal_digit : (c : ℕ) → is_ascii_digit c ≡ true → c - 48 ≡ digit_value c
decimal_digit c h = grind (arith, nat_tests)

pub is_decimal_digit : (c : ℕ) → is_digit c 10 ≡ is_ascii_digit c
is_decimal_digit c = grind (arith, nat_tests)

-- more digits make no less
pub value_grows : (v : ℕ) (ds : List ℕ) → v ≤ digits_value_after 10 v ds
value_grows v [] = omega arith
value_grows v (c ∷ cs) = omega (arith, value_grows (v * 10 + digit_value c) cs)

-- the refusals
pub bad_digits : (least most : ℕ) (w : List ℕ) → list_all (λ c. is_digit c 10) w ≡ false → number_in least most w ≡ None
unfolding number_in
bad_digits least most w e = grind (arith, nat_tests)

pub too_great : (least most : ℕ) (w : List ℕ) → most < digits_value 10 w → number_in least most w ≡ None
unfolding number_in
too_great least most w e = grind (arith, nat_tests)

-- a number is within its range
within_cond : (b c d : Bool) (n m : ℕ) → (if (b && c && d) then Some n else None) ≡ Some m → (c ≡ true) × (d ≡ true) × (n ≡ m)
within_cond true true true n m e = (refl, refl, cc)
within_cond true true false n m e = absurd (cc)
within_cond true false d n m e = absurd (cc)
within_cond false c d n m e = absurd (cc)

pub number_within : (least most : ℕ) (w : List ℕ) (n : ℕ) → number_in least most w ≡ Some n → (nat_le least n ≡ true) × (nat_le n most ≡ true)
unfolding number_in
number_within least most w n e =
    let at = within_cond (is_number w) (nat_le least (digits_value 10 w)) (nat_le (digits_value 10 w) most) (digits_value 10 w) n e in
    (sym (ap (λ k. nat_le least k) at.2) ∙ at.0, sym (ap (λ k. nat_le k most) at.2) ∙ at.1)
