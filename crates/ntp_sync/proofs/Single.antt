-- One list has the offsets of a CNAME, and it is the function's.
use Rattle.std.proofs.Common.{◌≡◌, ◌<◌, ◌≤◌, ◌+◌, ℕ, zero, suc, Bool, true, false, cond, nat_eq, List, [], ◌∷◌, length, map, Option, Some, None, ◌⊎◌, inl, inr, refl, sym, ap, subst, ◌∙◌, arith}
use Rattle.std.specs.Prelude.{ℤ, pos, ◌+ℤ◌, ◌≤ℤ◌, slice_index, Contains}
use Rattle.std.specs.List.Sorted.{IsStrictlyIncreasing}
use Rattle.std.specs.Map.{keys_of, values_of}
use Rattle.std.proofs.lemmas.Bool.{eq-eqb, eqb-true, ne_eqb}
use Rattle.std.proofs.lemmas.Bool.Decides.{nat_tests}
use Rattle.ntp_sync.specs.declared.sync.LaneReport.{LaneReport}
use Rattle.ntp_sync.specs.Found.{least_in, offsets_in}
use Rattle.ntp_sync.specs.Offsets.{Call, kept, report_of, delta_of, last_report, AreOffsets}
use Rattle.ntp_sync.specs.Answers.{report_at, reports_from, reports, offsets_above, offsets_of, AreLanes, IsOneList, IsTheFunction}
use Rattle.ntp_sync.proofs.Least.{Entries}
use Rattle.ntp_sync.proofs.Order.{In, in_from, contains_from, Later, Rises}
use Rattle.ntp_sync.proofs.Reports.{offsets_rising, no_offsets}

-- ---- lists of pairs that rise

abbrev Pairs : Type 0
Pairs = List (ℕ × ℕ)

abbrev firsts : Pairs → List ℕ
firsts xs = map (λ o. o.0) xs

later_weaker : (a b : ℕ) (xs : List ℕ) → a < b → Later b xs → Later a xs
later_weaker a b [] lt h = tt
later_weaker a b (x ∷ xs) lt h = (omega (arith, h.0), later_weaker a b xs lt h.1)

increases_behind : (x : ℕ) (xs : List ℕ) → IsStrictlyIncreasing (x ∷ xs) → IsStrictlyIncreasing xs
increases_behind x xs h = λ k lt.
    let e : suc k + 1 ≡ suc (k + 1) = omega arith in
    subst (λ (j : ℕ). slice_index xs k < slice_index (x ∷ xs) j) e (h (suc k) (omega (arith, lt)))

rises_of : (xs : List ℕ) → IsStrictlyIncreasing xs → Rises xs
rises_of [] h = tt
rises_of (x ∷ []) h = (tt, tt)
rises_of (x ∷ y ∷ ys) h =
    let rest = rises_of (y ∷ ys) (increases_behind x (y ∷ ys) h) in
    let lt : x < y = h 0 (omega arith) in
    ((lt, later_weaker x y ys lt rest.0), rest)

later_first : (k : ℕ) (xs : Pairs) (p : ℕ × ℕ) → Later k (firsts xs) → In p xs → k < p.0
later_first k [] p h i = absurd i
later_first k (x ∷ xs) p h (inl e) = let same : x.0 ≡ p.0 = ap (λ (y : ℕ × ℕ). y.0) e in omega (arith, h.0)
later_first k (x ∷ xs) p h (inr i) = later_first k xs p h.1 i

abbrev Within : Pairs → Pairs → Type 0
Within xs ys = (p : ℕ × ℕ) → In p xs → In p ys

same_head : (x y : ℕ × ℕ) (xs ys : Pairs) → Later x.0 (firsts xs) → Later y.0 (firsts ys) → In x (y ∷ ys) → In y (x ∷ xs) → x ≡ y
same_head x y xs ys a b (inl e) j = sym e
same_head x y xs ys a b (inr i) (inl e) = e
same_head x y xs ys a b (inr i) (inr j) = absurd (let p = later_first y.0 ys x b i in let q = later_first x.0 xs y a j in omega (arith, p, q))

behind_by : (x p : ℕ × ℕ) (xs ys : Pairs) → Later x.0 (firsts xs) → In p xs → In p (x ∷ ys) → In p ys
behind_by x p xs ys a i (inl e) = absurd (let lt = later_first x.0 xs p a i in let same : x.0 ≡ p.0 = ap (λ (y : ℕ × ℕ). y.0) e in omega (arith, lt))
behind_by x p xs ys a i (inr j) = j

behind : (x y : ℕ × ℕ) (xs ys : Pairs) → x ≡ y → Later x.0 (firsts xs) → Within (x ∷ xs) (y ∷ ys) → Within xs ys
behind x y xs ys e a h = λ p i. behind_by x p xs ys a i (subst (λ (z : ℕ × ℕ). In p (z ∷ ys)) (sym e) (h p (inr i)))

same_pairs : (xs ys : Pairs) → Rises (firsts xs) → Rises (firsts ys) → Within xs ys → Within ys xs → xs ≡ ys
same_pairs [] [] a b f g = refl
same_pairs [] (y ∷ ys) a b f g = absurd (g y (inl refl))
same_pairs (x ∷ xs) [] a b f g = absurd (f x (inl refl))
same_pairs (x ∷ xs) (y ∷ ys) a b f g =
    let e : x ≡ y = same_head x y xs ys a.0 b.0 (f x (inl refl)) (g y (inl refl)) in
    let rest : xs ≡ ys = same_pairs xs ys a.1 b.1 (behind x y xs ys e a.0 f) (behind y x ys xs (sym e) b.0 g) in
    λ i. e i ∷ rest i

within : (last : ℕ → Option LaneReport) (cname : List ℕ) (xs ys : Pairs) → AreOffsets last cname xs → AreOffsets last cname ys → Within xs ys
within last cname xs ys a b = λ p i. in_from ys p ((b.each p.0 p.1).1 ((a.each p.0 p.1).0 (contains_from xs p i)))

pub one_list : IsOneList
one_list last cname xs ys a b =
    same_pairs xs ys (rises_of (firsts xs) a.in_order) (rises_of (firsts ys) b.in_order) (within last cname xs ys a b) (within last cname ys xs b a)

-- ---- the reports in order

later_at : (k from : ℕ) (o : Option LaneReport) (rest : Entries) → k < from → Later k (keys_of rest) → Later k (keys_of (report_at from o rest))
later_at k from None rest lt h = h
later_at k from (Some r) rest lt h = (lt, h)

later_reports : (last : ℕ → Option LaneReport) (k from n : ℕ) → k < from → Later k (keys_of (reports_from last from n))
later_reports last k from zero lt = tt
later_reports last k from (suc n) lt = later_at k from (last from) (reports_from last (from + 1) n) lt (later_reports last k (from + 1) n (omega arith))

rises_at : (from : ℕ) (o : Option LaneReport) (rest : Entries) → Later from (keys_of rest) → Rises (keys_of rest) → Rises (keys_of (report_at from o rest))
rises_at from None rest later h = h
rises_at from (Some r) rest later h = (later, h)

rises_reports : (last : ℕ → Option LaneReport) (from n : ℕ) → Rises (keys_of (reports_from last from n))
rises_reports last from zero = tt
rises_reports last from (suc n) =
    rises_at from (last from) (reports_from last (from + 1) n) (later_reports last from (from + 1) n (omega arith)) (rises_reports last (from + 1) n)

other_at : (lane from : ℕ) (o : Option LaneReport) (rest : Entries) → nat_eq lane from ≡ false → kept (report_at from o rest) lane ≡ kept rest lane
other_at lane from None rest e = refl
other_at lane from (Some r) rest e = rw e refl

here_at : (lane from : ℕ) (o : Option LaneReport) (rest : Entries) → nat_eq lane from ≡ true → kept rest lane ≡ None → kept (report_at from o rest) lane ≡ o
here_at lane from None rest e none = none
here_at lane from (Some r) rest e none = rw e refl

kept_before : (last : ℕ → Option LaneReport) (lane from n : ℕ) → lane < from → kept (reports_from last from n) lane ≡ None
kept_before last lane from zero lt = refl
kept_before last lane from (suc n) lt =
    other_at lane from (last from) (reports_from last (from + 1) n) (ne_eqb lane from (λ e. absurd (omega (arith, e)))) ∙ kept_before last lane (from + 1) n (omega arith)

kept_behind : (last : ℕ → Option LaneReport) (lane from n : ℕ) → from + n ≤ lane → kept (reports_from last from n) lane ≡ None
kept_behind last lane from zero le = refl
kept_behind last lane from (suc n) le =
    other_at lane from (last from) (reports_from last (from + 1) n) (ne_eqb lane from (λ e. absurd (omega (arith, e)))) ∙ kept_behind last lane (from + 1) n (omega arith)

kept_by : (last : ℕ → Option LaneReport) (lane from n : ℕ) (b : Bool) → nat_eq lane from ≡ b → (nat_eq lane from ≡ false → kept (reports_from last (from + 1) n) lane ≡ last lane)
    → kept (report_at from (last from) (reports_from last (from + 1) n)) lane ≡ last lane
kept_by last lane from n true e h =
    here_at lane from (last from) (reports_from last (from + 1) n) e (kept_before last lane (from + 1) n (let same : lane ≡ from = eqb-true lane from e in omega arith)) ∙ ap last (sym (eqb-true lane from e))
kept_by last lane from n false e h = other_at lane from (last from) (reports_from last (from + 1) n) e ∙ h e

not_same : (a b : ℕ) → nat_eq a b ≡ false → b ≤ a → b + 1 ≤ a
not_same a b e le = grind (arith, nat_tests)

kept_there : (last : ℕ → Option LaneReport) (lane from n : ℕ) → from ≤ lane → lane < from + n → kept (reports_from last from n) lane ≡ last lane
kept_there last lane from zero le lt = absurd (omega arith)
kept_there last lane from (suc n) le lt =
    kept_by last lane from n (nat_eq lane from) refl (λ e. kept_there last lane (from + 1) n (not_same lane from e le) (omega arith))

none_above : (calls : List Call) (lane : ℕ) → AreLanes calls → 256 ≤ lane → last_report calls lane ≡ None
none_above [] lane h le = refl
none_above (c ∷ before) lane h le =
    let other : nat_eq c.lane lane ≡ false = ne_eqb c.lane lane (λ e. absurd (omega (arith, e, h.0))) in
    ap (λ (b : Bool). cond b (Some (report_of c.cname (delta_of c.info))) (last_report before lane)) other ∙ none_above before lane h.1 le

either : (calls : List Call) (lane : ℕ) → AreLanes calls → (lane < 256) ⊎ (256 ≤ lane) → kept (reports_from (last_report calls) 0 256) lane ≡ last_report calls lane
either calls lane h (inl lt) = kept_there (last_report calls) lane 0 256 (omega arith) (omega arith)
either calls lane h (inr le) = kept_behind (last_report calls) lane 0 256 (omega arith) ∙ sym (none_above calls lane h le)

compared : (a b : ℕ) → (a < b) ⊎ (b ≤ a)
compared a b = grind arith

by_least : (last : ℕ → Option LaneReport) (cname : List ℕ) (es : Entries) (o : Option ℤ) → Rises (keys_of es) → ((lane : ℕ) → kept es lane ≡ last lane) → least_in cname (values_of es) ≡ o
    → AreOffsets last cname (offsets_above cname o es)
by_least last cname es None rises same e = subst (λ (f : ℕ → Option LaneReport). AreOffsets f cname []) (λ i lane. same lane i) (no_offsets cname es e)
by_least last cname es (Some least) rises same e =
    subst (λ (f : ℕ → Option LaneReport). AreOffsets f cname (offsets_in cname least es)) (λ i lane. same lane i) (offsets_rising cname es least rises e)

pub is_function : IsTheFunction
unfolding reports
is_function calls cname h =
    let es = reports_from (last_report calls) 0 256 in
    by_least (last_report calls) cname es (least_in cname (values_of es)) (rises_reports (last_report calls) 0 256) (λ lane. either calls lane h (compared lane 256)) refl
