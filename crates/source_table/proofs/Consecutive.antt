-- The length of a run, by the list of the numbers in it.
use Rattle.std.proofs.Common.{◌≡◌, ◌≤◌, ◌↔◌, ◌+◌, ◌%◌, ◌==◌, ◌&&◌, not, ℕ, zero, suc, Bool, true, false, [], ◌∷◌, refl, arith, min, if◌then◌else◌}
use Rattle.std.proofs.lemmas.Bool.Decides.{nat_tests}
use Rattle.source_table.specs.declared.run.Run.{Run}
use Rattle.source_table.specs.Counting.{run_next, follows}
use Rattle.source_table.specs.Probation.{run_of, AreConsecutive, IsRunLength}

some : (b : Bool) (n : ℕ) → 1 ≤ (if b then min (n + 1) 255 else 1)
some true n = omega arith
some false n = omega arith

one : (run : Run) (seq : ℕ) → 1 ≤ (run_next run seq).length
one run seq = some (follows run seq) run.length

test_is : (length seq next : ℕ) → (not (length == 0) && (seq == next)) ≡ true → seq ≡ next
test_is length seq next e = grind (arith, nat_tests)

is_test : (length seq next : ℕ) → 1 ≤ length → seq ≡ next → (not (length == 0) && (seq == next)) ≡ true
is_test length seq next some e = grind (arith, nat_tests)

longer : (b : Bool) (m length : ℕ) (E C : Type 0) → (b ≡ true → E) → (E → b ≡ true) → suc (suc m) ≤ 255 → (suc m ≤ length) ↔ C
    → (suc (suc m) ≤ (if b then min (length + 1) 255 else 1)) ↔ (E × C)
longer true m length E C f g small h = (λ le. (f refl, h.0 (omega arith)), λ p. let le : suc m ≤ length = h.1 p.1 in omega arith)
longer false m length E C f g small h = (λ le. absurd (omega arith), λ p. absurd (let e : false ≡ true = g p.0 in cc))

pub run_length : IsRunLength
run_length zero seqs small = (λ le. tt, λ p. omega arith)
run_length (suc zero) [] small = (λ le. absurd (omega arith), λ p. absurd p)
run_length (suc zero) (seq ∷ before) small = (λ le. tt, λ p. one (run_of before) seq)
run_length (suc (suc n)) [] small = (λ le. absurd (omega arith), λ p. absurd p)
run_length (suc (suc n)) (seq ∷ []) small = (λ le. absurd (omega arith), λ p. absurd p)
run_length (suc (suc n)) (seq ∷ last ∷ before) small =
    longer (follows (run_of (last ∷ before)) seq) n (run_of (last ∷ before)).length (seq ≡ (last + 1) % 65536) (AreConsecutive (suc n) (last ∷ before))
    (test_is (run_of (last ∷ before)).length seq ((last + 1) % 65536)) (is_test (run_of (last ∷ before)).length seq ((last + 1) % 65536) (one (run_of before) last))
    small (run_length (suc n) (last ∷ before) (omega arith))
