-- Where the furthest of some records ends.
use Rattle.std.proofs.Common.{◌≡◌, ℕ, zero, suc, ◌≤◌, ◌<◌, List, [], ◌∷◌, ◌++◌, length, take, subst, sym, arith}
use Rattle.pcap_file.specs.Capture.{Record}
use Rattle.capture_file.specs.Capture.{Capture, capture_of, with_front, end_in, furthest, end_of}

reaches : (bytes : List ℕ) (seen : List Record) (r : Record) (more : List Record) (n : ℕ) → length seen < n → end_in bytes r ≤ furthest bytes (take n ((seen ++ r ∷ []) ++ more))
reaches bytes [] r more zero lt = absurd (omega arith)
reaches bytes [] r more (suc n) lt = omega arith
reaches bytes (x ∷ xs) r more zero lt = absurd (omega arith)
reaches bytes (x ∷ xs) r more (suc n) lt = omega (arith, reaches bytes xs r more n (omega arith))

-- a record that is there is among those that are more than the ones before it
pub ends_within : (bytes : List ℕ) (seen : List Record) (r : Record) (rest : Capture) (n : ℕ) → capture_of bytes ≡ with_front (seen ++ r ∷ []) rest → length seen < n → end_in bytes r ≤ end_of bytes n
unfolding end_of
ends_within bytes seen r rest n is lt =
    subst (λ (c : Capture). end_in bytes r ≤ furthest bytes (take n c.records)) (sym is) (reaches bytes seen r rest.records n lt)
