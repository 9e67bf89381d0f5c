-- The options of an interface, one by one, and what they say.
use Rattle.std.proofs.Common.{◌≡◌, ℕ, zero, suc, ◌+◌, ◌≤◌, ◌<◌, Bool, true, false, List, [], ◌∷◌, length, take, drop, Option, Some, None, refl, sym, ap, ◌∙◌, arith}
use Rattle.std.specs.Prelude.{nat_lt, ◌==◌, ◌&&◌, ◌||◌, option_map, slice_index, if◌then◌else◌, ℤ}
use Rattle.std.specs.Int.{w64, cast_signed}
use Rattle.std.proofs.lemmas.Bool.{lt-ltb, le-ltb, ne_eqb}
use Rattle.std.proofs.lemmas.List.{length-drop, length-take}
use Rattle.pcap_file.specs.Numbers.{number_at}
use Rattle.pcap_file.specs.declared.order.Order.{Order}
use Rattle.pcapng_file.specs.declared.options.Said.{Said}
use Rattle.pcapng_file.specs.Options.{filled, Opt, Options, with_first, options_within, options_in, fits, all_fit, value_of, said_by, or_else, also, also_option, judged, options_say}

-- ---- what was said before, and what is said next

same_said : {a b : Option ℕ} {s t : Option ℤ} → a ≡ b → s ≡ t → (let said : Said = record { resolution = a; seconds = s } in said) ≡ record { resolution = b; seconds = t }
same_said p q = rw (p, q) refl

or_none : {A : Type 0} (x : Option A) → or_else x None ≡ x
or_none None = refl
or_none (Some x) = refl

or_then : {A : Type 0} (x y z : Option A) → or_else x (or_else y z) ≡ or_else (or_else x y) z
or_then None y z = refl
or_then (Some x) y z = refl

pub also_none : (order : Order) (said : Said) → also said (said_by order []) ≡ said
also_none order said = same_said (or_none said.resolution) (or_none said.seconds)

pub also_then : (a b : Said) (c : Option Said) → also_option a (also_option b c) ≡ also_option (also a b) c
also_then a b None = refl
also_then a b (Some c) = ap (λ (s : Said). Some s) (same_said (or_then a.resolution b.resolution c.resolution) (or_then a.seconds b.seconds c.seconds))

pub none_also : (order : Order) (c : Option Said) → also_option (said_by order []) c ≡ c
none_also order None = refl
none_also order (Some c) = refl

mapped : {A : Type 0} (f : List ℕ → A) (b : Bool) (v : List ℕ) (x : Option (List ℕ)) → option_map f (if b then Some v else x) ≡ or_else (option_map f (if b then Some v else None)) (option_map f x)
mapped f true v x = refl
mapped f false v x = refl

said_first : (order : Order) (o : Opt) (list : List Opt) → said_by order (o ∷ list) ≡ also (said_by order (o ∷ [])) (said_by order list)
said_first order o list =
    same_said (mapped (λ (value : List ℕ). slice_index value 0) (o.code == 9) o.value (value_of 9 list))
    (mapped (λ (value : List ℕ). cast_signed w64 (number_at order 8 0 value)) (o.code == 14) o.value (value_of 14 list))

-- ---- the tests on options, in their order

judged_in : (whole all : Bool) (s p t : Said) → s ≡ also p t → (if whole && (true && all) then Some s else None) ≡ also_option p (if whole && all then Some t else None)
judged_in true true s p t e = ap (λ (said : Said). Some said) e
judged_in true false s p t e = refl
judged_in false all s p t e = refl

judged_first : (order : Order) (o : Opt) (options : Options) → fits o.code (length o.value) ≡ true → judged order (with_first o options) ≡ also_option (said_by order (o ∷ [])) (judged order options)
judged_first order o options fit =
    rw fit (judged_in options.whole (all_fit options.list) (said_by order (o ∷ options.list)) (said_by order (o ∷ [])) (said_by order options.list) (said_first order o options.list))

unfit_in : (whole all : Bool) (s : Said) → (if whole && (false && all) then Some s else None) ≡ None
unfit_in true all s = refl
unfit_in false all s = refl

judged_unfit : (order : Order) (o : Opt) (options : Options) → fits o.code (length o.value) ≡ false → judged order (with_first o options) ≡ None
judged_unfit order o options unfit = rw unfit (unfit_in options.whole (all_fit options.list) (said_by order (o ∷ options.list)))

-- ---- one option in front of others

abbrev step : Order → List ℕ → Options → Options
step order bytes behind =
    if nat_lt (length bytes) 4 || number_at order 2 0 bytes == 0 then record { list = []; whole = true }
    else if nat_lt (length bytes) (4 + filled (number_at order 2 2 bytes)) then record { list = []; whole = false }
    else with_first (record { code = number_at order 2 0 bytes; value = take (number_at order 2 2 bytes) (drop 4 bytes) }) behind

abbrev pub behind : Order → List ℕ → List ℕ
behind order bytes = drop (4 + filled (number_at order 2 2 bytes)) bytes

few_step : (order : Order) (bytes : List ℕ) (options : Options) → length bytes < 4 → step order bytes options ≡ record { list = []; whole = true }
few_step order bytes options few = rw (lt-ltb (length bytes) 4 few) refl

-- more steps than bytes change nothing
within_enough : (order : Order) (m n : ℕ) (bytes : List ℕ) → length bytes ≤ m → length bytes ≤ n → options_within order m bytes ≡ options_within order n bytes
unfolding options_within
within_enough order zero zero bytes p q = refl
within_enough order zero (suc n) bytes p q = sym (few_step order bytes (options_within order n (behind order bytes)) (omega arith))
within_enough order (suc m) zero bytes p q = few_step order bytes (options_within order m (behind order bytes)) (omega arith)
within_enough order (suc m) (suc n) bytes p q =
    let len = length-drop (4 + filled (number_at order 2 2 bytes)) bytes in
    ap (λ (o : Options). step order bytes o) (within_enough order m n (behind order bytes) (omega arith) (omega arith))

within_step : (order : Order) (n : ℕ) (bytes : List ℕ) → n ≡ length bytes → options_within order n bytes ≡ step order bytes (options_in order (behind order bytes))
unfolding options_within
within_step order zero bytes e = sym (few_step order bytes (options_in order (behind order bytes)) (omega arith))
within_step order (suc n) bytes e =
    let len = length-drop (4 + filled (number_at order 2 2 bytes)) bytes in
    ap (λ (o : Options). step order bytes o) (within_enough order n (length (behind order bytes)) (behind order bytes) (omega arith) (omega arith))

say_step : (order : Order) (bytes : List ℕ) → options_say order bytes ≡ judged order (step order bytes (options_in order (behind order bytes)))
unfolding options_say
say_step order bytes = ap (λ (o : Options). judged order o) (within_step order (length bytes) bytes refl)

pub say_few : (order : Order) (bytes : List ℕ) → length bytes < 4 → options_say order bytes ≡ Some (said_by order [])
say_few order bytes few = say_step order bytes ∙ ap (λ (o : Options). judged order o) (few_step order bytes (options_in order (behind order bytes)) few)

pub say_end : (order : Order) (bytes : List ℕ) → 4 ≤ length bytes → number_at order 2 0 bytes ≡ 0 → options_say order bytes ≡ Some (said_by order [])
say_end order bytes some code = say_step order bytes ∙ rw (le-ltb (length bytes) 4 some, code) refl

pub say_cut : (order : Order) (bytes : List ℕ) → 4 ≤ length bytes → (number_at order 2 0 bytes ≡ 0 → ⊥) → length bytes < 4 + filled (number_at order 2 2 bytes) → options_say order bytes ≡ None
say_cut order bytes some code cut =
    say_step order bytes ∙ rw (le-ltb (length bytes) 4 some, ne_eqb (number_at order 2 0 bytes) 0 code, lt-ltb (length bytes) (4 + filled (number_at order 2 2 bytes)) cut) refl

abbrev first : Order → List ℕ → Opt
first order bytes = record { code = number_at order 2 0 bytes; value = take (number_at order 2 2 bytes) (drop 4 bytes) }

whole_step : (order : Order) (bytes : List ℕ) (options : Options) → 4 ≤ length bytes → (number_at order 2 0 bytes ≡ 0 → ⊥) → 4 + filled (number_at order 2 2 bytes) ≤ length bytes → step order bytes options ≡ with_first (first order bytes) options
whole_step order bytes options some code whole =
    rw (le-ltb (length bytes) 4 some, ne_eqb (number_at order 2 0 bytes) 0 code, le-ltb (length bytes) (4 + filled (number_at order 2 2 bytes)) whole) refl

value_long : (order : Order) (bytes : List ℕ) → 4 + filled (number_at order 2 2 bytes) ≤ length bytes → length (take (number_at order 2 2 bytes) (drop 4 bytes)) ≡ number_at order 2 2 bytes
value_long order bytes whole = omega (arith, length-take (number_at order 2 2 bytes) (drop 4 bytes), length-drop 4 bytes)

pub say_unfit : (order : Order) (bytes : List ℕ) → 4 ≤ length bytes → (number_at order 2 0 bytes ≡ 0 → ⊥) → 4 + filled (number_at order 2 2 bytes) ≤ length bytes
    → fits (number_at order 2 0 bytes) (number_at order 2 2 bytes) ≡ false → options_say order bytes ≡ None
say_unfit order bytes some code whole unfit =
    let options = options_in order (behind order bytes) in
    say_step order bytes ∙ ap (λ (o : Options). judged order o) (whole_step order bytes options some code whole)
    ∙ judged_unfit order (first order bytes) options (ap (λ (n : ℕ). fits (number_at order 2 0 bytes) n) (value_long order bytes whole) ∙ unfit)

pub say_more : (order : Order) (bytes : List ℕ) → 4 ≤ length bytes → (number_at order 2 0 bytes ≡ 0 → ⊥) → 4 + filled (number_at order 2 2 bytes) ≤ length bytes
    → fits (number_at order 2 0 bytes) (number_at order 2 2 bytes) ≡ true → options_say order bytes ≡ also_option (said_by order (first order bytes ∷ [])) (options_say order (behind order bytes))
unfolding options_say
say_more order bytes some code whole fit =
    let options = options_in order (behind order bytes) in
    ap (λ (o : Options). judged order o) (within_step order (length bytes) bytes refl ∙ whole_step order bytes options some code whole)
    ∙ judged_first order (first order bytes) options (ap (λ (n : ℕ). fits (number_at order 2 0 bytes) n) (value_long order bytes whole) ∙ fit)
