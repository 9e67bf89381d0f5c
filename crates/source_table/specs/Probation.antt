-- What probation asks of the sequence numbers of a source, the newest first.
use Rattle.std.specs.Prelude.{◌≡◌, ◌≤◌, ◌↔◌, ℕ, zero, suc, ◌+◌, ◌%◌, List, [], ◌∷◌}
use Rattle.source_table.specs.declared.run.Run.{Run}
use Rattle.source_table.specs.Counting.{no_run, run_next}

-- the run after these numbers
abbrev pub run_of : List ℕ → Run
run_of [] = no_run
run_of (seq ∷ before) = run_next (run_of before) seq

-- There are at least so many numbers, and each of the newest is one above the one before it, modulo 2^16.
abbrev pub AreConsecutive : ℕ → List ℕ → Type 0
AreConsecutive zero seqs = Unit {0}
AreConsecutive (suc zero) [] = ⊥
AreConsecutive (suc zero) (seq ∷ before) = Unit {0}
AreConsecutive (suc (suc n)) [] = ⊥
AreConsecutive (suc (suc n)) (seq ∷ []) = ⊥
AreConsecutive (suc (suc n)) (seq ∷ last ∷ before) = (seq ≡ (last + 1) % 65536) × AreConsecutive (suc n) (last ∷ before)

-- A run is as long as the newest numbers are consecutive; it is counted up to 255.
abbrev pub IsRunLength : Type 0
IsRunLength = (n : ℕ) (seqs : List ℕ) → n ≤ 255 → (n ≤ (run_of seqs).length) ↔ AreConsecutive n seqs
