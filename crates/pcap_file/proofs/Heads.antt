-- What stands at a record's border, by the tests in their order, and the records from there on.
use Rattle.std.proofs.Common.{◌≡◌, ℕ, zero, suc, ◌+◌, ◌≤◌, ◌<◌, List, [], ◌∷◌, ◌++◌, length, drop, Some, None, refl, sym, ap, ◌∙◌, arith}
use Rattle.std.proofs.lemmas.Bool.Decides.{nat_tests}
use Rattle.std.proofs.lemmas.List.{length-drop, length-append, drop_at}
use Rattle.pcap_file.specs.declared.fault.CaptureFault.{CaptureFault}
use Rattle.pcap_file.specs.declared.fault.CaptureFault.TheVariants.{TooMany, CutRecord, Length, Fraction}
use Rattle.pcap_file.specs.declared.header.Format.{Format}
use Rattle.pcap_file.specs.Numbers.{number_at}
use Rattle.pcap_file.specs.Capture.{Record, Capture, Head, AtEnd, AtFault, AtRecord, record_of, fraction_limit, head, with_front, empty, step_from, walk, records_from}

-- each test in its order
pub head_empty : (format : Format) (count offset : ℕ) → head format count offset [] ≡ AtEnd
unfolding head
head_empty format count offset = refl

pub head_many : (format : Format) (count offset : ℕ) (bytes : List ℕ) → 0 < length bytes → 100000000 ≤ count → head format count offset bytes ≡ AtFault (TooMany offset)
unfolding head
head_many format count offset bytes some many = grind (arith, nat_tests)

pub head_cut : (format : Format) (count offset : ℕ) (bytes : List ℕ) → 0 < length bytes → count < 100000000 → length bytes < 16 → head format count offset bytes ≡ AtFault (CutRecord offset)
unfolding head
head_cut format count offset bytes some few short = grind (arith, nat_tests)

pub head_long : (format : Format) (count offset : ℕ) (bytes : List ℕ) → count < 100000000 → 16 ≤ length bytes → 262144 < number_at format.order 4 8 bytes → head format count offset bytes ≡ AtFault (Length offset)
unfolding head
head_long format count offset bytes few some long = grind (arith, nat_tests)

pub head_fraction : (format : Format) (count offset : ℕ) (bytes : List ℕ) → count < 100000000 → 16 ≤ length bytes → number_at format.order 4 8 bytes ≤ 262144 → fraction_limit format ≤ number_at format.order 4 4 bytes → head format count offset bytes ≡ AtFault (Fraction offset)
unfolding head
head_fraction format count offset bytes few some long high = grind (arith, nat_tests)

pub head_short : (format : Format) (count offset : ℕ) (bytes : List ℕ) → count < 100000000 → 16 ≤ length bytes → number_at format.order 4 8 bytes ≤ 262144 → number_at format.order 4 4 bytes < fraction_limit format → length bytes < 16 + number_at format.order 4 8 bytes
    → head format count offset bytes ≡ AtFault (CutRecord offset)
unfolding head
head_short format count offset bytes few some long high cut = grind (arith, nat_tests)

pub head_whole : (format : Format) (count offset : ℕ) (bytes : List ℕ) → count < 100000000 → number_at format.order 4 8 bytes ≤ 262144 → number_at format.order 4 4 bytes < fraction_limit format → 16 + number_at format.order 4 8 bytes ≤ length bytes
    → head format count offset bytes ≡ AtRecord (record_of format offset bytes)
unfolding head
head_whole format count offset bytes few long high whole = grind (arith, nat_tests)

-- ---- the records from a place on

some_bytes : (format : Format) (count offset : ℕ) (bytes : List ℕ) (r : Record) → head format count offset bytes ≡ AtRecord r → 0 < length bytes
some_bytes format count offset [] r e = let same : AtEnd ≡ AtRecord r = sym (head_empty format count offset) ∙ e in absurd cc
some_bytes format count offset (x ∷ xs) r e = omega arith

step_same : (f g : ℕ → ℕ → List ℕ → Capture) (count offset : ℕ) (bytes : List ℕ) (h : Head)
    → ((r : Record) → h ≡ AtRecord r → f (count + 1) (offset + (16 + length r.bytes)) (drop (16 + length r.bytes) bytes) ≡ g (count + 1) (offset + (16 + length r.bytes)) (drop (16 + length r.bytes) bytes))
    → step_from f count offset bytes h ≡ step_from g count offset bytes h
step_same f g count offset bytes AtEnd same = refl
step_same f g count offset bytes (AtFault fault) same = refl
step_same f g count offset bytes (AtRecord r) same = ap (λ (c : Capture). with_front (r ∷ []) c) (same r refl)

-- more steps than bytes change nothing
walk_enough : (format : Format) (m n count offset : ℕ) (bytes : List ℕ) → length bytes < m → length bytes < n → walk format m count offset bytes ≡ walk format n count offset bytes
unfolding walk
walk_enough format zero n count offset bytes p q = absurd (omega arith)
walk_enough format (suc m) zero count offset bytes p q = absurd (omega arith)
walk_enough format (suc m) (suc n) count offset bytes p q =
    step_same (walk format m) (walk format n) count offset bytes (head format count offset bytes) (λ r e.
    let some = some_bytes format count offset bytes r e in
    let len = length-drop (16 + length r.bytes) bytes in
    walk_enough format m n (count + 1) (offset + (16 + length r.bytes)) (drop (16 + length r.bytes) bytes) (omega arith) (omega arith))

pub records_end : (format : Format) (count offset : ℕ) (bytes : List ℕ) → head format count offset bytes ≡ AtEnd → records_from format count offset bytes ≡ empty None
unfolding records_from walk
records_end format count offset bytes e =
    let k : length bytes + 1 ≡ suc (length bytes) = omega arith in
    ap (λ (n : ℕ). walk format n count offset bytes) k ∙ rw e refl

pub records_fault : (format : Format) (count offset : ℕ) (bytes : List ℕ) (fault : CaptureFault) → head format count offset bytes ≡ AtFault fault → records_from format count offset bytes ≡ empty (Some fault)
unfolding records_from walk
records_fault format count offset bytes fault e =
    let k : length bytes + 1 ≡ suc (length bytes) = omega arith in
    ap (λ (n : ℕ). walk format n count offset bytes) k ∙ rw e refl

pub records_more : (format : Format) (count offset : ℕ) (bytes : List ℕ) (r : Record) → 0 < length bytes → head format count offset bytes ≡ AtRecord r
    → records_from format count offset bytes ≡ with_front (r ∷ []) (records_from format (count + 1) (offset + (16 + length r.bytes)) (drop (16 + length r.bytes) bytes))
unfolding records_from walk
records_more format count offset bytes r some e =
    let k : length bytes + 1 ≡ suc (length bytes) = omega arith in
    let rest = drop (16 + length r.bytes) bytes in
    let one : walk format (suc (length bytes)) count offset bytes ≡ with_front (r ∷ []) (walk format (length bytes) (count + 1) (offset + (16 + length r.bytes)) rest) = rw e refl in
    ap (λ (n : ℕ). walk format n count offset bytes) k ∙ one
    ∙ ap (λ (c : Capture). with_front (r ∷ []) c) (walk_enough format (length bytes) (length rest + 1) (count + 1) (offset + (16 + length r.bytes)) rest (omega (arith, length-drop (16 + length r.bytes) bytes)) (omega arith))

-- a record in front of anything
pub records_behind : (format : Format) (count offset : ℕ) (taken more : List ℕ) (r : Record) → length taken ≡ 16 + length r.bytes → head format count offset (taken ++ more) ≡ AtRecord r
    → records_from format count offset (taken ++ more) ≡ with_front (r ∷ []) (records_from format (count + 1) (offset + (16 + length r.bytes)) more)
records_behind format count offset taken more r len e =
    records_more format count offset (taken ++ more) r (omega (arith, length-append taken more)) e
    ∙ ap (λ (xs : List ℕ). with_front (r ∷ []) (records_from format (count + 1) (offset + (16 + length r.bytes)) xs)) (drop_at taken more (16 + length r.bytes) len)
