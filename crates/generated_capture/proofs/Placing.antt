-- The places of a kind, from one on.
use Rattle.std.proofs.Common.{◌≡◌, ℕ, zero, suc, ◌+◌, ◌-◌, Bool, true, false, cond, List, [], ◌∷◌, map, Option, Some, None, refl, sym, ap, ◌∙◌, arith}
use Rattle.std.specs.List.{range_with_len, filter, find}
use Rattle.generated_capture.specs.declared.places.Kind.{Kind}
use Rattle.generated_capture.specs.declared.delivery.Delivery.{Delivery}
use Rattle.generated_capture.specs.Series.{test_of, delivery_of, series_from}

-- what is found first, and what is left behind it
abbrev pub found_in : (ℕ → Bool) → ℕ → Option ℕ → List ℕ
found_in test end None = []
found_in test end (Some i) = i ∷ filter test (range_with_len (i + 1) (end - (i + 1)))

found_step : (test : ℕ → Bool) (a n : ℕ) (b : Bool)
    → filter test (range_with_len (a + 1) n)
    ≡ found_in test ((a + 1) + n) (find test (range_with_len (a + 1) n))
    → cond b (a ∷ filter test (range_with_len (a + 1) n)) (filter test (range_with_len (a + 1) n))
    ≡ found_in test (a + suc n) (cond b (Some a) (find test (range_with_len (a + 1) n)))
found_step test a n true rest =
    let same : n ≡ (a + suc n) - (a + 1) = omega arith in
    ap (λ (k : ℕ). a ∷ filter test (range_with_len (a + 1) k)) same
found_step test a n false rest =
    let same : (a + 1) + n ≡ a + suc n = omega arith in
    rest ∙ ap (λ (k : ℕ). found_in test k (find test (range_with_len (a + 1) n))) same

filter_found : (test : ℕ → Bool) (a n : ℕ)
    → filter test (range_with_len a n) ≡ found_in test (a + n) (find test (range_with_len a n))
filter_found test a zero = refl
filter_found test a (suc n) = found_step test a n (test a) (filter_found test (a + 1) n)

found_up : (test : ℕ → Bool) (place count n : ℕ) → count - place ≡ n
    → filter test (range_with_len place n)
    ≡ found_in test count (find test (range_with_len place n))
found_up test place count zero e = refl
found_up test place count (suc n) e =
    let same : place + suc n ≡ count = omega arith in
    filter_found test place (suc n)
    ∙ ap (λ (k : ℕ). found_in test k (find test (range_with_len place (suc n)))) same

-- ---- by what is found

abbrev pub series_found : Kind → ℕ → Option ℕ → List Delivery
series_found k count found = map (delivery_of k) (found_in (test_of k) count found)

pub series_is : (k : Kind) (place count : ℕ) (found : Option ℕ)
    → found ≡ find (test_of k) (range_with_len place (count - place))
    → series_from k place count ≡ series_found k count found
series_is k place count found e =
    ap (map (delivery_of k))
    (found_up (test_of k) place count (count - place) refl
    ∙ ap (found_in (test_of k) count) (sym e))
