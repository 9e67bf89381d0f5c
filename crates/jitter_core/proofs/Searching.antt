-- What a search finds by place: in heights, of which each is greater than those after it, and in peaks, of which each is less.
use Rattle.std.proofs.Common.{ℕ, zero, suc, ◌≡◌, ◌+◌, ◌≤◌, ◌<◌, true, false, refl, sym, ap, ◌∙◌, inl, inr, List, [], ◌∷◌, ◌++◌, None, Some, length, arith}
use Rattle.std.specs.Prelude.{nat_le, slice_index_or, if◌then◌else◌}
use Rattle.std.specs.List.{AllWithin}
use Rattle.std.proofs.lemmas.Bool.{cases_lt}
use Rattle.std.proofs.lemmas.Grind.{common_steps}
use Rattle.std.proofs.lemmas.List.{get_or_read, get_or_append_left, length_push}
use Rattle.jitter_model.specs.declared.Mark.{Mark}
use Rattle.jitter_model.specs.Times.{expected, expected_below, between}
use Rattle.jitter_core.specs.declared.peaks.Peak.{Peak}
use Rattle.jitter_core.specs.Marks.{kept, kept_two, from_mark, AreMarksFalling}
use Rattle.jitter_core.specs.Peaks.{stamp_from}

past : (a n : ℕ) → n < a → nat_le a n ≡ false
past a n lt = grind (arith, common_steps)

reached : (a n : ℕ) → a ≤ n → nat_le a n ≡ true
reached a n le = grind (arith, common_steps)

-- ---- expected times

pub expected_first : (ms : List Mark) (n : ℕ) (d : Mark) → 0 < length ms → (slice_index_or ms 0 d).number ≤ n → expected ms n ≡ (slice_index_or ms 0 d).pts
expected_first [] n d some le = absurd (omega arith)
expected_first (m ∷ ms) n d some le = rw (reached m.number n le) refl

below_at : (b : Mark) (ms : List Mark) (n p : ℕ) (d : Mark) → p < length ms → ((k : ℕ) → k < p → n < (slice_index_or ms k d).number) → (slice_index_or ms p d).number ≤ n
    → expected_below b ms n ≡ between (slice_index_or ms p d) (slice_index_or (b ∷ ms) p d) n
below_at b [] n p d lt above le = absurd (omega arith)
below_at b (a ∷ ms) n zero d lt above le = rw (reached a.number n le) refl
below_at b (a ∷ ms) n (suc p) d lt above le = rw (past a.number n (above 0 (omega arith))) (below_at a ms n p d (omega arith) (λ k h. above (suc k) (omega arith)) le)

expected_at : (ms : List Mark) (n p : ℕ) (d : Mark) → suc p < length ms → ((k : ℕ) → k < suc p → n < (slice_index_or ms k d).number) → (slice_index_or ms (suc p) d).number ≤ n
    → expected ms n ≡ between (slice_index_or ms (suc p) d) (slice_index_or ms p d) n
expected_at [] n p d lt above le = absurd (omega arith)
expected_at (b ∷ ms) n p d lt above le = rw (past b.number n (above 0 (omega arith))) (below_at b ms n p d (omega arith) (λ k h. above (suc k) (omega arith)) le)

-- a number from the height at q on, and below the one before it
pub expected_between : (ms : List Mark) (n p q : ℕ) (low high : Mark) → q ≡ p + 1 → q < length ms → low ≡ slice_index_or ms q low → high ≡ slice_index_or ms p high → AllWithin (λ m. n < m.number) ms 0 q → low.number ≤ n
    → expected ms n ≡ between low high n
expected_between ms n p q low high after lt l h above le =
    let place : q ≡ suc p = omega arith in
    let l' : low ≡ slice_index_or ms (suc p) low = l ∙ ap (λ (i : ℕ). slice_index_or ms i low) place in
    let h' : high ≡ slice_index_or ms p low = get_or_read ms p high (omega arith) h low in
    let e : expected ms n ≡ between (slice_index_or ms (suc p) low) (slice_index_or ms p low) n = expected_at ms n p low (omega arith) (λ k to. above k low (omega arith) (omega arith)) (omega (arith, ap (λ (m : Mark). m.number) l', le)) in
    cc

below_none : (b : Mark) (ms : List Mark) (n p : ℕ) (d : Mark) → p ≡ length ms → ((k : ℕ) → k < length ms → n < (slice_index_or ms k d).number) → expected_below b ms n ≡ (slice_index_or (b ∷ ms) p d).pts
below_none b [] n zero d last above = refl
below_none b [] n (suc p) d last above = absurd (omega arith)
below_none b (a ∷ ms) n zero d last above = absurd (omega arith)
below_none b (a ∷ ms) n (suc p) d last above = rw (past a.number n (above 0 (omega arith))) (below_none a ms n p d (omega arith) (λ k h. above (suc k) (omega arith)))

-- a number below all, the last of which is at p
pub expected_last : (ms : List Mark) (n p : ℕ) (d : Mark) → p + 1 ≡ length ms → ((k : ℕ) → k < length ms → n < (slice_index_or ms k d).number) → expected ms n ≡ (slice_index_or ms p d).pts
expected_last [] n p d last above = absurd (omega arith)
expected_last (b ∷ ms) n p d last above = rw (past b.number n (above 0 (omega arith))) (below_none b ms n p d (omega arith) (λ k h. above (suc k) (omega arith)))

-- ---- the first packet from a number on

pub stamp_at : (ps : List Peak) (m p : ℕ) (d : Peak) → p < length ps → ((k : ℕ) → k < p → (slice_index_or ps k d).number < m) → m ≤ (slice_index_or ps p d).number → stamp_from ps m ≡ Some (slice_index_or ps p d).stamp
stamp_at [] m p d lt below le = absurd (omega arith)
stamp_at (q ∷ ps) m zero d lt below le = rw (reached m q.number le) refl
stamp_at (q ∷ ps) m (suc p) d lt below le = rw (past m q.number (below 0 (omega arith))) (stamp_at ps m p d (omega arith) (λ k h. below (suc k) (omega arith)) le)

pub stamp_none : (ps : List Peak) (m : ℕ) → ((k : ℕ) (d : Peak) → k < length ps → (slice_index_or ps k d).number < m) → stamp_from ps m ≡ None
stamp_none [] m below = refl
stamp_none (q ∷ ps) m below = rw (past m q.number (below 0 q (omega arith))) (stamp_none ps m (λ k d h. below (suc k) d (omega arith)))

-- ---- heights that are no longer needed

kept_without : (next : ℕ) (ms : List Mark) (z d : Mark) (i : ℕ) → i + 1 ≡ length ms → (slice_index_or ms i d).number ≤ next → kept (Some next) (ms ++ z ∷ []) ≡ kept (Some next) ms
kept_without next [] z d i last le = absurd (omega arith)
kept_without next (a ∷ []) z d zero last le = rw (reached a.number next le) refl
kept_without next (a ∷ []) z d (suc i) last le = absurd (omega arith)
kept_without next (a ∷ b ∷ ms) z d zero last le = absurd (omega arith)
kept_without next (a ∷ b ∷ ms) z d (suc i) last le = ap (from_mark (Some next) a) (kept_without next (b ∷ ms) z d i (omega arith) le)

two_without : (next : ℕ) (ms : List Mark) (z d : Mark) (p : ℕ) → 0 < p → p + 1 ≡ length ms → (slice_index_or ms p d).number ≤ next → kept_two (Some next) (ms ++ z ∷ []) ≡ kept_two (Some next) ms
two_without next [] z d p some last le = absurd (omega arith)
two_without next (m ∷ ms) z d zero some last le = absurd (omega arith)
two_without next (m ∷ ms) z d (suc i) some last le = ap (λ (ns : List Mark). m ∷ ns) (kept_without next ms z d i (omega arith) le)

-- the last height isn't needed, where the one before it isn't above the next number nor the greatest
pub two_popped : (next : ℕ) (old new : List Mark) (z x : Mark) (p : ℕ) → old ≡ new ++ z ∷ [] → 0 < p → p + 2 ≡ length old → x ≡ slice_index_or old p x → x.number ≤ next → kept_two (Some next) new ≡ kept_two (Some next) old
two_popped next old new z x p is some last at le =
    let long : length old ≡ length new + 1 = ap (λ (ms : List Mark). length ms) is ∙ length_push new z in
    let here : slice_index_or old p x ≡ slice_index_or new p x = ap (λ (ms : List Mark). slice_index_or ms p x) is ∙ get_or_append_left new (z ∷ []) x p (omega arith) in
    sym (ap (λ (ms : List Mark). kept_two (Some next) ms) is ∙ two_without next new z x p some (omega arith) (omega (arith, ap (λ (m : Mark). m.number) at, ap (λ (m : Mark). m.number) here, le)))

pub falling_popped : (old new : List Mark) (z : Mark) → old ≡ new ++ z ∷ [] → AreMarksFalling old → AreMarksFalling new
falling_popped old new z is falling i j d lt within =
    let long : length old ≡ length new + 1 = ap (λ (ms : List Mark). length ms) is ∙ length_push new z in
    let first : slice_index_or old i d ≡ slice_index_or new i d = ap (λ (ms : List Mark). slice_index_or ms i d) is ∙ get_or_append_left new (z ∷ []) d i (omega arith) in
    let second : slice_index_or old j d ≡ slice_index_or new j d = ap (λ (ms : List Mark). slice_index_or ms j d) is ∙ get_or_append_left new (z ∷ []) d j (omega arith) in
    omega (arith, falling i j d lt (omega arith), ap (λ (m : Mark). m.number) first, ap (λ (m : Mark). m.number) second)

kept_whole : (next : ℕ) (ms : List Mark) (d : Mark) → ((k : ℕ) → k + 1 < length ms → next < (slice_index_or ms k d).number) → kept (Some next) ms ≡ ms
kept_whole next [] d above = refl
kept_whole next (a ∷ []) d above =
    elim (nat_le a.number next) as (λ b. (if b then a ∷ [] else a ∷ []) ≡ a ∷ []) [ true ↦ refl | false ↦ refl ]
kept_whole next (a ∷ b ∷ ms) d above = rw (kept_whole next (b ∷ ms) d (λ k h. above (suc k) (omega arith)), past a.number next (above 0 (omega arith))) refl

pub two_short : (next : ℕ) (ms : List Mark) → length ms ≤ 2 → kept_two (Some next) ms ≡ ms
two_short next [] few = refl
two_short next (m ∷ ms) few = ap (λ (ns : List Mark). m ∷ ns) (kept_whole next ms m (λ k h. absurd (omega arith)))

two_above : (next : ℕ) (ms : List Mark) (d : Mark) → ((k : ℕ) → 0 < k → k + 1 < length ms → next < (slice_index_or ms k d).number) → kept_two (Some next) ms ≡ ms
two_above next [] d above = refl
two_above next (m ∷ ms) d above = ap (λ (ns : List Mark). m ∷ ns) (kept_whole next ms d (λ k h. above (suc k) (omega arith) (omega arith)))

-- all heights are needed, where the last but one is above the next number
pub two_whole : (next : ℕ) (ms : List Mark) (x : Mark) (p : ℕ) → AreMarksFalling ms → p + 2 ≡ length ms → x ≡ slice_index_or ms p x → next < x.number → kept_two (Some next) ms ≡ ms
two_whole next ms x p falling last at lt =
    two_above next ms x (λ k from to. elim (cases_lt k p) [
      | inl before ↦ omega (arith, falling k p x before (omega arith), ap (λ (m : Mark). m.number) at)
      | inr after ↦ let same : p ≡ k = omega arith in omega (arith, ap (λ (m : Mark). m.number) (at ∙ ap (λ (i : ℕ). slice_index_or ms i x) same))
    ])
