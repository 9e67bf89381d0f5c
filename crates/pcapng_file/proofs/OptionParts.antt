-- The options of an interface as they are read, part by part.
use Rattle.std.proofs.Common.{◌≡◌, ℕ, zero, suc, ◌+◌, ◌-◌, ◌≤◌, ◌<◌, Bool, true, false, List, [], ◌∷◌, ◌++◌, length, take, drop, Option, Some, None, refl, sym, ap, ◌∙◌, append_assoc, arith}
use Rattle.std.specs.Prelude.{nat_lt, ◌||◌, not, slice_index}
use Rattle.std.specs.Int.{w64, cast_signed}
use Rattle.std.proofs.lemmas.Bool.{ne_eqb}
use Rattle.std.proofs.lemmas.Bool.Decides.{nat_tests}
use Rattle.std.proofs.lemmas.List.{length-append, drop_at, take-append-le}
use Rattle.rtp_io.specs.Outside.{Disk}
use Rattle.pcap_file.specs.Numbers.{number_at}
use Rattle.pcap_file.specs.declared.order.Order.{Order}
use Rattle.pcapng_file.proofs.Numbers.{number_front}
use Rattle.pcapng_file.specs.declared.options.Said.{Said}
use Rattle.pcapng_file.specs.Options.{filled, fits, said_by, also, also_option, options_say}
use Rattle.pcapng_file.specs.Pieces.{TakesPart}
use Rattle.pcapng_file.proofs.Parts.{part_then}
use Rattle.pcapng_file.proofs.OptionLemmas.{also_none, also_then, none_also, say_few, say_end, say_cut, say_unfit, say_more}

-- The bytes that were taken say this, and what comes behind them says the rest.
abbrev pub SaysSo : Order → ℕ → Said → List ℕ → Type 0
SaysSo order left said taken = (more : List ℕ) → length more ≡ left → options_say order (taken ++ more) ≡ also_option said (options_say order more)

pub says_none : (order : Order) (left : ℕ) → SaysSo order left (record { resolution = None; seconds = None }) []
says_none order left more len = sym (none_also order (options_say order more))

-- the same, with the head of an option taken
abbrev HeadSays : Order → ℕ → Said → List ℕ → List ℕ → Type 0
HeadSays order left said head taken = (more : List ℕ) → length more ≡ left → options_say order (taken ++ more) ≡ also_option said (options_say order (head ++ more))

head_part : (order : Order) (said : Said) (head : List ℕ) (left size : ℕ) (w x y : List ℕ) (a b c : Disk) → left ≤ size → 4 ≤ left → length head ≡ 4
    → TakesPart (SaysSo order left said) (size - left) w x a b → TakesPart (λ taken. taken ≡ head) 4 x y b c → TakesPart (HeadSays order (left - 4) said head) (size - (left - 4)) w y a c
head_part order said head left size w x y a b c le some long first second =
    part_then (SaysSo order left said) (λ taken. taken ≡ head) (HeadSays order (left - 4) said head) (size - left) 4 (size - (left - 4)) w x y a b c first second (omega arith) (λ p q lp lq says q-is more len.
    ap (λ (xs : List ℕ). options_say order xs) (append_assoc p q more) ∙ says (q ++ more) (omega (arith, length-append q more))
    ∙ ap (λ (xs : List ℕ). also_option said (options_say order (xs ++ more))) q-is)

-- code 0 ends the options
pub end_part : (order : Order) (said : Said) (head : List ℕ) (left size : ℕ) (w x y z : List ℕ) (a b c d : Disk) → left ≤ size → 4 ≤ left → length head ≡ 4 → number_at order 2 0 head ≡ 0
    → TakesPart (SaysSo order left said) (size - left) w x a b → TakesPart (λ taken. taken ≡ head) 4 x y b c → TakesPart (λ _. Unit {0}) (left - 4) y z c d
    → TakesPart (λ taken. Some said ≡ options_say order taken) size w z a d
end_part order said head left size w x y z a b c d le some long code first second third =
    part_then (HeadSays order (left - 4) said head) (λ _. Unit {0}) (λ taken. Some said ≡ options_say order taken) (size - (left - 4)) (left - 4) size w y z a c d
    (head_part order said head left size w x y a b c le some long first second) third (omega arith) (λ p q lp lq says q-is.
    let zero-is : number_at order 2 0 (head ++ q) ≡ 0 = number_front order 2 0 head q (omega arith) ∙ code in
    sym (says q lq ∙ ap (λ (o : Option Said). also_option said o) (say_end order (head ++ q) (omega (arith, length-append head q)) zero-is)
    ∙ ap (λ (s : Said). Some s) (also_none order said)))

-- no further option can begin
pub few_part : (order : Order) (said : Said) (left size : ℕ) (x y z : List ℕ) (a b c : Disk) → left ≤ size → left < 4
    → TakesPart (SaysSo order left said) (size - left) x y a b → TakesPart (λ _. Unit {0}) left y z b c → TakesPart (λ taken. Some said ≡ options_say order taken) size x z a c
few_part order said left size x y z a b c le few first second =
    part_then (SaysSo order left said) (λ _. Unit {0}) (λ taken. Some said ≡ options_say order taken) (size - left) left size x y z a b c first second (omega arith) (λ p q lp lq says q-is.
    sym (says q lq ∙ ap (λ (o : Option Said). also_option said o) (say_few order q (omega arith)) ∙ ap (λ (s : Said). Some s) (also_none order said)))

-- ---- an option that is wrong

abbrev pub is_wrong : ℕ → ℕ → ℕ → Bool
is_wrong code size left = nat_lt left (filled size) || not (fits code size)

wrong_cases : (cut fit : Bool) (P : Type 0) → (cut || not fit) ≡ true → (cut ≡ true → P) → (cut ≡ false → fit ≡ false → P) → P
wrong_cases true fit P is f g = f refl
wrong_cases false true P is f g = absurd cc
wrong_cases false false P is f g = g refl refl

right_cases : (cut fit : Bool) → (cut || not fit) ≡ false → (cut ≡ false) × (fit ≡ true)
right_cases true fit is = absurd cc
right_cases false true is = (refl, refl)
right_cases false false is = absurd cc

lt_by : (m n : ℕ) → nat_lt m n ≡ true → m < n
lt_by m n e = grind (arith, nat_tests)

le_by : (m n : ℕ) → nat_lt m n ≡ false → n ≤ m
le_by m n e = grind (arith, nat_tests)

say_wrong : (order : Order) (head rest : List ℕ) (left : ℕ) → length head ≡ 4 → length rest ≡ left → (number_at order 2 0 head ≡ 0 → ⊥)
    → is_wrong (number_at order 2 0 head) (number_at order 2 2 head) left ≡ true → options_say order (head ++ rest) ≡ None
say_wrong order head rest left long len other is =
    let bytes = head ++ rest in
    let code = number_at order 2 0 head in
    let size = number_at order 2 2 head in
    let code-is : number_at order 2 0 bytes ≡ code = number_front order 2 0 head rest (omega arith) in
    let size-is : number_at order 2 2 bytes ≡ size = number_front order 2 2 head rest (omega arith) in
    let filled-is : filled (number_at order 2 2 bytes) ≡ filled size = ap (λ (n : ℕ). filled n) size-is in
    let all : length bytes ≡ 4 + left = omega (arith, length-append head rest) in
    let other-is : number_at order 2 0 bytes ≡ 0 → ⊥ = λ e. other (sym code-is ∙ e) in
    wrong_cases (nat_lt left (filled size)) (fits code size) (options_say order bytes ≡ None) is
    (λ cut. say_cut order bytes (omega (arith, all)) other-is (omega (arith, all, filled-is, lt_by left (filled size) cut)))
    (λ whole unfit. say_unfit order bytes (omega (arith, all)) other-is (omega (arith, all, filled-is, le_by left (filled size) whole))
    (ap (λ (n : ℕ). fits n (number_at order 2 2 bytes)) code-is ∙ ap (λ (n : ℕ). fits code n) size-is ∙ unfit))

pub wrong_part : (order : Order) (said : Said) (head : List ℕ) (left size : ℕ) (w x y z : List ℕ) (a b c d : Disk) → left ≤ size → 4 ≤ left → length head ≡ 4 → (number_at order 2 0 head ≡ 0 → ⊥)
    → is_wrong (number_at order 2 0 head) (number_at order 2 2 head) (left - 4) ≡ true
    → TakesPart (SaysSo order left said) (size - left) w x a b → TakesPart (λ taken. taken ≡ head) 4 x y b c → TakesPart (λ _. Unit {0}) (left - 4) y z c d
    → TakesPart (λ taken. None ≡ options_say order taken) size w z a d
wrong_part order said head left size w x y z a b c d le some long other is first second third =
    part_then (HeadSays order (left - 4) said head) (λ _. Unit {0}) (λ taken. None ≡ options_say order taken) (size - (left - 4)) (left - 4) size w y z a c d
    (head_part order said head left size w x y a b c le some long first second) third (omega arith) (λ p q lp lq says q-is.
    sym (says q lq ∙ ap (λ (o : Option Said). also_option said o) (say_wrong order head q (left - 4) long lq other is)))

-- ---- an option with its value

say_right : (order : Order) (head value more : List ℕ) (next : Said) → length head ≡ 4 → (number_at order 2 0 head ≡ 0 → ⊥) → fits (number_at order 2 0 head) (number_at order 2 2 head) ≡ true → length value ≡ filled (number_at order 2 2 head)
    → next ≡ said_by order (record { code = number_at order 2 0 head; value = take (number_at order 2 2 head) value } ∷ [])
    → options_say order (head ++ (value ++ more)) ≡ also_option next (options_say order more)
say_right order head value more next long other fit len next-is =
    let rest = value ++ more in
    let bytes = head ++ rest in
    let code = number_at order 2 0 head in
    let size = number_at order 2 2 head in
    let code-is : number_at order 2 0 bytes ≡ code = number_front order 2 0 head rest (omega arith) in
    let size-is : number_at order 2 2 bytes ≡ size = number_front order 2 2 head rest (omega arith) in
    let all : length bytes ≡ 4 + (filled size + length more) = omega (arith, length-append head rest, length-append value more, len) in
    let filled-is : filled (number_at order 2 2 bytes) ≡ filled size = ap (λ (n : ℕ). filled n) size-is in
    let fit-is : fits (number_at order 2 0 bytes) (number_at order 2 2 bytes) ≡ true = ap (λ (n : ℕ). fits n (number_at order 2 2 bytes)) code-is ∙ ap (λ (n : ℕ). fits code n) size-is ∙ fit in
    let value-is : take size (drop 4 bytes) ≡ take size value = ap (λ (xs : List ℕ). take size xs) (drop_at head rest 4 long) ∙ take-append-le size value more (omega (arith, len)) in
    let behind-is : drop (4 + filled size) bytes ≡ more = ap (λ (xs : List ℕ). drop (4 + filled size) xs) (sym (append_assoc head value more)) ∙ drop_at (head ++ value) more (4 + filled size) (omega (arith, length-append head value, len)) in
    say_more order bytes (omega (arith, all)) (λ e. other (sym code-is ∙ e)) (omega (arith, all, filled-is)) fit-is
    ∙ rw (code-is, size-is, value-is, behind-is, ← next-is) refl

pub value_part : (order : Order) (said next : Said) (head : List ℕ) (left size : ℕ) (w x y z : List ℕ) (a b c d : Disk) → left ≤ size → 4 ≤ left → length head ≡ 4 → (number_at order 2 0 head ≡ 0 → ⊥)
    → is_wrong (number_at order 2 0 head) (number_at order 2 2 head) (left - 4) ≡ false
    → TakesPart (SaysSo order left said) (size - left) w x a b → TakesPart (λ taken. taken ≡ head) 4 x y b c
    → TakesPart (λ taken. next ≡ said_by order (record { code = number_at order 2 0 head; value = take (number_at order 2 2 head) taken } ∷ [])) (filled (number_at order 2 2 head)) y z c d
    → TakesPart (SaysSo order (left - 4 - filled (number_at order 2 2 head)) (also said next)) (size - (left - 4 - filled (number_at order 2 2 head))) w z a d
value_part order said next head left size w x y z a b c d le some long other is first second third =
    let code = number_at order 2 0 head in
    let count = number_at order 2 2 head in
    let right = right_cases (nat_lt (left - 4) (filled count)) (fits code count) is in
    let room : filled count ≤ left - 4 = le_by (left - 4) (filled count) right.0 in
    part_then (HeadSays order (left - 4) said head) (λ taken. next ≡ said_by order (record { code = code; value = take count taken } ∷ [])) (SaysSo order (left - 4 - filled count) (also said next))
    (size - (left - 4)) (filled count) (size - (left - 4 - filled count)) w y z a c d
    (head_part order said head left size w x y a b c le some long first second) third (omega (arith, room)) (λ p q lp lq says q-is more len.
    ap (λ (xs : List ℕ). options_say order xs) (append_assoc p q more) ∙ says (q ++ more) (omega (arith, length-append q more, room))
    ∙ ap (λ (o : Option Said). also_option said o) (say_right order head q more next long other right.1 lq q-is) ∙ also_then said next (options_say order more))

pub fits_part : (code size left : ℕ) → is_wrong code size left ≡ false → (fits code size ≡ true) × (filled size ≤ left)
fits_part code size left is = let right = right_cases (nat_lt left (filled size)) (fits code size) is in (right.1, le_by left (filled size) right.0)

-- ---- the value of one option

resolution_size : (size : ℕ) → fits 9 size ≡ true → size ≡ 1
resolution_size size e = grind (arith, nat_tests)

offset_size : (size : ℕ) → fits 14 size ≡ true → size ≡ 8
offset_size size e = grind (arith, nat_tests)

pub resolution_fill : (code size : ℕ) → code ≡ 9 → fits code size ≡ true → filled size ≡ 4
resolution_fill code size is fit = ap (λ (n : ℕ). filled n) (resolution_size size (ap (λ (n : ℕ). fits n size) (sym is) ∙ fit))

pub offset_fill : (code size : ℕ) → code ≡ 14 → fits code size ≡ true → filled size ≡ 8
offset_fill code size is fit = ap (λ (n : ℕ). filled n) (offset_size size (ap (λ (n : ℕ). fits n size) (sym is) ∙ fit))

front_one : (value : List ℕ) → 0 < length value → slice_index (take 1 value) 0 ≡ slice_index value 0
front_one [] some = absurd (omega arith)
front_one (x ∷ value) some = refl

pub resolution_said : (order : Order) (code size : ℕ) (value : List ℕ) → code ≡ 9 → fits code size ≡ true → length value ≡ 4
    → (let said : Said = record { resolution = Some (slice_index value 0); seconds = None } in said) ≡ said_by order (record { code = code; value = take size value } ∷ [])
resolution_said order code size value is fit len =
    let one : size ≡ 1 = resolution_size size (ap (λ (n : ℕ). fits n size) (sym is) ∙ fit) in
    rw (is, one, front_one value (omega arith)) refl

pub offset_said : (order : Order) (code size : ℕ) (value : List ℕ) → code ≡ 14 → fits code size ≡ true → length value ≡ 8
    → (let said : Said = record { resolution = None; seconds = Some (cast_signed w64 (number_at order 8 0 value)) } in said) ≡ said_by order (record { code = code; value = take size value } ∷ [])
offset_said order code size value is fit len =
    let eight : size ≡ 8 = offset_size size (ap (λ (n : ℕ). fits n size) (sym is) ∙ fit) in
    let all : take 8 value ≡ value = take_all value 8 len in
    rw (is, eight, all) refl
  where
    take_all : (xs : List ℕ) (n : ℕ) → length xs ≡ n → take n xs ≡ xs
    take_all [] n e = rw (← e) refl
    take_all (x ∷ xs) zero e = absurd (omega arith)
    take_all (x ∷ xs) (suc n) e = ap (λ (r : List ℕ). x ∷ r) (take_all xs n (omega arith))

pub other_said : (order : Order) (code : ℕ) (value : List ℕ) → (code ≡ 9 → ⊥) → (code ≡ 14 → ⊥)
    → (let said : Said = record { resolution = None; seconds = None } in said) ≡ said_by order (record { code = code; value = value } ∷ [])
other_said order code value a b = rw (ne_eqb code 9 a, ne_eqb code 14 b) refl
