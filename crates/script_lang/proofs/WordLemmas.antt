-- Words and lines of a text that was written.
use Rattle.std.proofs.Common.{◌≡◌, ◌<◌, ◌≤◌, ◌+◌, ◌-◌, ◌*◌, ◌/◌, ◌%◌, ◌^◌, ℕ, suc, zero, List, [], ◌∷◌, ◌++◌, length, get_or, map, take, Bool, true, false, ◌&&◌, sym, ◌∙◌, ap, subst, refl, arith, nat_eq, nat_le, nat_lt, append_assoc, append-nil, length-append, add-suc, if◌then◌else◌, Ok, Err}
use Rattle.std.specs.Prelude.{replicate, filter}
use Rattle.std.specs.List.{list_all, join_with_byte, All}
use Rattle.std.specs.Char.{is_digit, digit_value}
use Rattle.std.specs.Fmt.{decimal, digits, digits_onto, digit_glyph, format_spec, padded_integral, char_count}
use Rattle.std.specs.Str.Lines.{strip_carriage_return}
use Rattle.std.specs.Str.Parse.{AllDigits, digits_value}
use Rattle.std.proofs.lemmas.Fmt.{digits_is_IsNumeral, decimal_is_IsNumeral, length-decimal-le}
use Rattle.std.proofs.lemmas.Bool.{ltb-true, lt-ltb, leb-true, le-leb, eqb-true}
use Rattle.std.proofs.lemmas.Bool.Decides.{nat_tests}
use Rattle.std.proofs.lemmas.List.{length-replicate}
use Rattle.std.proofs.lemmas.List.Folds.{list_all-append}
use Rattle.std.proofs.lemmas.List.Splits.{slice_split_at, slice_split_none}
use Rattle.std.proofs.Math.Nat.{pow-suc}
use Rattle.script_lang.specs.Text.{is_newline, lines_of, is_blank, words_of, is_text_byte, is_text}
use Rattle.script_lang.specs.Numbers.{is_number, number_in, time_in, is_ssrc, ssrc_in}
use Rattle.script_lang.specs.Settings.{is_within, is_time_within}
use Rattle.script_lang.specs.Written.{ssrc_text, time_text, lines_text, entry_text}
use Rattle.script_lang.specs.declared.entry.Entry.{Entry}
use Rattle.script_lang.specs.declared.fault.ScriptCause.TheVariants.{Number, Ssrc}
use Rattle.script_lang.specs.Causes.{◌>>=◌}
use Rattle.script_lang.proofs.BoolLemmas.{both_true, true_both}

-- ---- words

-- printable ASCII without the space
abbrev pub is_graphic : ℕ → Bool
is_graphic b = nat_le 33 b && nat_le b 126

abbrev pub is_word : List ℕ → Bool
is_word w = nat_lt 0 (length w) && list_all is_graphic w

-- a digit is neither blank nor outside ASCII
graphic_digit : (c : ℕ) → digit_value c < 16 → is_graphic c ≡ true
graphic_digit c h = grind (arith, nat_tests)

graphic_digits : (radix : ℕ) (ds : List ℕ) → radix ≤ 16 → AllDigits radix ds → list_all is_graphic ds ≡ true
graphic_digits radix [] le h = refl
graphic_digits radix (c ∷ cs) le h = true_both _ _ (graphic_digit c (omega (arith, h.0))) (graphic_digits radix cs le h.1)

all_digits : (radix : ℕ) (ds : List ℕ) → AllDigits radix ds → list_all (λ c. is_digit c radix) ds ≡ true
all_digits radix [] h = refl
all_digits radix (c ∷ cs) h = true_both _ _ (lt-ltb (digit_value c) radix h.0) (all_digits radix cs h.1)

pub decimal_word : (n : ℕ) → n < 2 ^ 64 → is_word (decimal n) ≡ true
decimal_word n h =
    let d = (decimal_is_IsNumeral n h).0 in
    true_both _ _ (lt-ltb 0 (length (decimal n)) d.0) (graphic_digits 10 (decimal n) (omega arith) d.1)

-- a number that was written is read
pub number_again : (least most n : ℕ) → most ≤ 4294967295 → is_within least most n ≡ true → number_in least most (decimal n) ≡ Ok n
unfolding number_in
number_again least most n small h =
    let w = both_true (nat_le least n) (nat_le n most) h in
    let le : n ≤ most = leb-true n most w.1 in
    let bound : n < 2 ^ 64 = omega arith in
    let bound10 : n < 10 ^ 20 = omega arith in
    let d = decimal_is_IsNumeral n bound in
    let short : length (decimal n) ≤ 20 = length-decimal-le 20 n (omega arith) bound10 bound in
    let number : is_number (decimal n) ≡ true = true_both _ _ (true_both _ _ (le-leb 1 (length (decimal n)) d.0.0) (le-leb (length (decimal n)) 20 short)) (all_digits 10 (decimal n) d.0.1) in
    let value : digits_value 10 (decimal n) ≡ n = d.1 in
    let test : (is_number (decimal n) && nat_le least (digits_value 10 (decimal n)) && nat_le (digits_value 10 (decimal n)) most) ≡ true =
    true_both _ _ (true_both _ _ number (ap (nat_le least) value ∙ w.0)) (ap (λ k. nat_le k most) value ∙ w.1) in
    ap (λ b. if b then Ok (digits_value 10 (decimal n)) else Err Number) test ∙ ap (λ k. Ok k) value

pub time_again : (least most ns : ℕ) → most ≤ 4294967295 → is_time_within least most ns ≡ true → time_in least most (time_text ns) ≡ Ok ns
unfolding time_in
time_again least most ns small h =
    let w = both_true (nat_eq (ns % 1000000) 0) (is_within least most (ns / 1000000)) h in
    let whole : ns % 1000000 ≡ 0 = eqb-true (ns % 1000000) 0 w.0 in
    let back : ns / 1000000 * 1000000 ≡ ns = omega arith in
    ap (λ r. r >>= λ ms. Ok (ms * 1000000)) (number_again least most (ns / 1000000) small w.1) ∙ ap (λ k. Ok k) back

-- ---- SSRCs

-- zeros up to eight digits
padded_ssrc : (ds : List ℕ) → padded_integral (format_spec 32 0 4 8 (2 ^ 64 - 1)) false [] ds ≡ replicate (8 - length ds) 48 ++ ds
unfolding padded_integral char_count
padded_ssrc ds =
    let pad : 8 - length ds - 0 - 0 ≡ 8 - length ds = omega arith in
    ap (λ k. replicate k 48 ++ (ds ++ [])) pad ∙ ap (λ t. replicate (8 - length ds) 48 ++ t) (append-nil ds)

-- so many digits serve for a number below a power of 16
digits_onto_short : (k j n : ℕ) (acc : List ℕ) → n < 16 ^ suc j → length (digits_onto (suc (k + j)) 16 false n acc) ≤ length acc + suc j
digits_onto_short k zero n acc h =
    let e : n / 16 ≡ 0 = omega arith in
    rw e (omega arith)
digits_onto_short k (suc j) n acc h =
    let power : 16 ^ suc (suc j) ≡ 16 ^ suc j * 16 = pow-suc 16 (suc j) in
    let less : n / 16 < 16 ^ suc j = omega (arith, power) in
    let rest = digits_onto_short k j (n / 16) (digit_glyph false (n % 16) ∷ acc) less in
    elim (nat_eq (n / 16) 0) as (λ b. length (if b then digit_glyph false (n % 16) ∷ acc else digits_onto (k + suc j) 16 false (n / 16) (digit_glyph false (n % 16) ∷ acc)) ≤ length acc + suc (suc j)) [
      | true ↦ omega arith
      | false ↦ rw add-suc (omega (arith, rest))
    ]

AllDigits_zeros : (k : ℕ) (ds : List ℕ) → AllDigits 16 ds → AllDigits 16 (replicate k 48 ++ ds)
AllDigits_zeros zero ds h = h
AllDigits_zeros (suc k) ds h = (omega arith, AllDigits_zeros k ds h)

value_zeros : (k : ℕ) (ds : List ℕ) → digits_value 16 (replicate k 48 ++ ds) ≡ digits_value 16 ds
value_zeros zero ds = refl
value_zeros (suc k) ds = value_zeros k ds

-- eight digits of the number
pub record IsSsrcText (n : ℕ) : Type 0 where
  pub eight : length (ssrc_text n) ≡ 8
  pub digits : AllDigits 16 (ssrc_text n)
  pub value : digits_value 16 (ssrc_text n) ≡ n

ssrc_digits : (n : ℕ) → nat_lt n (2 ^ 32) ≡ true → IsSsrcText n
unfolding digits
ssrc_digits n h =
    let lt : n < 4294967296 = ltb-true n (2 ^ 32) h in
    let d = digits_is_IsNumeral 16 false (omega arith) (omega arith) n (omega arith) in
    let short : length (digits 16 false n) ≤ 8 = digits_onto_short 56 7 n [] (omega arith) in
    let text : ssrc_text n ≡ replicate (8 - length (digits 16 false n)) 48 ++ digits 16 false n = padded_ssrc (digits 16 false n) in
    let len : length (replicate (8 - length (digits 16 false n)) 48 ++ digits 16 false n) ≡ 8 =
    omega (arith, length-append (replicate (8 - length (digits 16 false n)) 48) (digits 16 false n), length-replicate {A = ℕ} (8 - length (digits 16 false n)) 48) in
    record {
      eight = ap length text ∙ len;
      digits = subst (AllDigits 16) (sym text) (AllDigits_zeros (8 - length (digits 16 false n)) (digits 16 false n) d.0.1);
      value = ap (digits_value 16) text ∙ value_zeros (8 - length (digits 16 false n)) (digits 16 false n) ∙ d.1;
    }

pub ssrc_word : (n : ℕ) → nat_lt n (2 ^ 32) ≡ true → is_word (ssrc_text n) ≡ true
ssrc_word n h =
    let s = ssrc_digits n h in
    true_both _ _ (ap (nat_lt 0) s.eight) (graphic_digits 16 (ssrc_text n) (omega arith) s.digits)

pub ssrc_again : (n : ℕ) → nat_lt n (2 ^ 32) ≡ true → ssrc_in (ssrc_text n) ≡ Ok n
unfolding ssrc_in
ssrc_again n h =
    let s = ssrc_digits n h in
    let test : is_ssrc (ssrc_text n) ≡ true = true_both _ _ (ap (λ k. nat_eq k 8) s.eight) (all_digits 16 (ssrc_text n) s.digits) in
    ap (λ b. if b then Ok (digits_value 16 (ssrc_text n)) else Err Ssrc) test ∙ ap (λ k. Ok k) s.value

-- ---- the words of a line

graphic_not_blank : (b : ℕ) → is_graphic b ≡ true → is_blank b ≡ false
graphic_not_blank b h = grind (arith, nat_tests)

all_at : (p : ℕ → Bool) (xs : List ℕ) → list_all p xs ≡ true → (k d : ℕ) → k < length xs → p (get_or xs k d) ≡ true
all_at p [] h k d lt = absurd (omega arith)
all_at p (x ∷ xs) h zero d lt = (both_true (p x) (list_all p xs) h).0
all_at p (x ∷ xs) h (suc k) d lt = all_at p xs (both_true (p x) (list_all p xs) h).1 k d (omega arith)

not_blank : (w : List ℕ) → list_all is_graphic w ≡ true → All (λ b. is_blank b ≡ false) w
not_blank w h k d lt = graphic_not_blank (get_or w k d) (all_at is_graphic w h k d lt)

pub words_again : (ws : List (List ℕ)) → list_all is_word ws ≡ true → words_of (join_with_byte 32 ws) ≡ ws
unfolding words_of
words_again [] h = refl
words_again (w ∷ []) h =
    let e = both_true (is_word w) true h in
    let k = both_true (nat_lt 0 (length w)) (list_all is_graphic w) e.0 in
    ap (filter (λ word. nat_lt 0 (length word))) (slice_split_none is_blank w (not_blank w k.1)) ∙ ap (λ b. if b then w ∷ [] else []) k.0
words_again (w ∷ v ∷ ws) h =
    let e = both_true (is_word w) (list_all is_word (v ∷ ws)) h in
    let k = both_true (nat_lt 0 (length w)) (list_all is_graphic w) e.0 in
    ap (filter (λ word. nat_lt 0 (length word))) (slice_split_at is_blank w 32 (join_with_byte 32 (v ∷ ws)) (not_blank w k.1) refl)
    ∙ ap (λ b. if b then w ∷ words_of (join_with_byte 32 (v ∷ ws)) else words_of (join_with_byte 32 (v ∷ ws))) k.0
    ∙ ap (λ rest. w ∷ rest) (words_again (v ∷ ws) e.1)

text_of_word : (w : List ℕ) → list_all is_graphic w ≡ true → is_text w ≡ true
text_of_word [] h = refl
text_of_word (b ∷ w) h = let e = both_true (is_graphic b) (list_all is_graphic w) h in true_both _ _ (text_byte b e.0) (text_of_word w e.1)
  where
    text_byte : (b : ℕ) → is_graphic b ≡ true → is_text_byte b ≡ true
    text_byte b h = grind (arith, nat_tests)

pub text_of_words : (ws : List (List ℕ)) → list_all is_word ws ≡ true → is_text (join_with_byte 32 ws) ≡ true
text_of_words [] h = refl
text_of_words (w ∷ []) h =
    text_of_word w (both_true (nat_lt 0 (length w)) (list_all is_graphic w) (both_true (is_word w) true h).0).1
text_of_words (w ∷ v ∷ ws) h =
    let e = both_true (is_word w) (list_all is_word (v ∷ ws)) h in
    list_all-append is_text_byte w (32 ∷ join_with_byte 32 (v ∷ ws))
    ∙ true_both _ _ (text_of_word w (both_true (nat_lt 0 (length w)) (list_all is_graphic w) e.0).1) (text_of_words (v ∷ ws) e.1)

-- ---- lines

text_not_newline : (b : ℕ) → is_text_byte b ≡ true → is_newline b ≡ false
text_not_newline b h = grind (arith, nat_tests)

text_not_return : (b : ℕ) → is_text_byte b ≡ true → nat_eq b 13 ≡ false
text_not_return b h = grind (arith, nat_tests)

no_newline : (l : List ℕ) → is_text l ≡ true → All (λ b. is_newline b ≡ false) l
no_newline l h k d lt = text_not_newline (get_or l k d) (all_at is_text_byte l h k d lt)

-- text ends with no carriage return
text_stays : (l : List ℕ) → is_text l ≡ true → strip_carriage_return l ≡ l
text_stays [] h = refl
text_stays (b ∷ l) h =
    let last : is_text_byte (get_or (b ∷ l) (length (b ∷ l) - 1) 0) ≡ true = all_at is_text_byte (b ∷ l) h (length (b ∷ l) - 1) 0 (omega arith) in
    ap (λ t. if t then take (length (b ∷ l) - 1) (b ∷ l) else b ∷ l) (text_not_return _ last)

pub lines_again : (es : List Entry) → list_all (λ e. is_text (entry_text e)) es ≡ true → lines_of (lines_text es) ≡ map entry_text es ++ [] ∷ []
unfolding lines_of
lines_again [] h = refl
lines_again (e ∷ es) h =
    let k = both_true (is_text (entry_text e)) (list_all (λ e. is_text (entry_text e)) es) h in
    let apart : lines_text (e ∷ es) ≡ entry_text e ++ (10 ∷ lines_text es) = append_assoc (entry_text e) (10 ∷ []) (lines_text es) in
    ap lines_of apart ∙ ap (map strip_carriage_return) (slice_split_at is_newline (entry_text e) 10 (lines_text es) (no_newline (entry_text e) k.0) refl)
    ∙ ap (λ l. l ∷ lines_of (lines_text es)) (text_stays (entry_text e) k.0) ∙ ap (λ ls. entry_text e ∷ ls) (lines_again es k.1)
