-- The heights that are kept serve as well as all of them, and there is room for them.
use Rattle.std.proofs.Common.{ℕ, zero, suc, ◌≡◌, ◌+◌, ◌-◌, ◌≤◌, ◌<◌, ◌^◌, true, false, refl, ap, ◌∙◌, List, [], ◌∷◌, Option, None, Some, length, arith, max, min}
use Rattle.std.specs.Prelude.{⊤, ℤ, pos, negsuc, unwrap_or, nat_le, slice_index_or, if◌then◌else◌}
use Rattle.std.proofs.lemmas.Grind.{common_steps}
use Rattle.rtp_units.specs.Numbers.{hold}
use Rattle.skew_model.specs.Skew.{Estimate, estimate_after, height_time}
use Rattle.jitter_model.specs.declared.Settings.{Settings}
use Rattle.jitter_model.specs.declared.Mark.{Mark}
use Rattle.jitter_model.specs.Accepted.{Taken, top, least}
use Rattle.jitter_model.specs.Times.{is_above, is_height, heights, is_next_height, height_after, estimate_of, time_of, pts_after, marks, first_pts, expected, expected_below, between}
use Rattle.jitter_core.specs.Marks.{kept, kept_two, before_another, from_mark, is_next_mark, AreMarksBounded, AreMarksFalling}
use Rattle.jitter_model.specs.Numbered.{InWindow}

-- ---- expected times by the kept heights

expected_below-from : (k n : ℕ) (b a : Mark) (ms ns : List Mark) → k ≤ n → (nat_le a.number n ≡ false → expected_below a ms n ≡ expected_below a ns n) → expected_below b (from_mark (Some k) a ms) n ≡ expected_below b (a ∷ ns) n
expected_below-from k n b a ms ns le same =
    elim (nat_le a.number k) as (λ x. (nat_le a.number k ≡ x) → expected_below b (if x then a ∷ [] else a ∷ ms) n ≡ expected_below b (a ∷ ns) n) [
      | true ↦ λ e. let there : nat_le a.number n ≡ true = grind (arith, common_steps) in rw there refl
      | false ↦ λ e. elim (nat_le a.number n) as (λ y. (y ≡ false → expected_below a ms n ≡ expected_below a ns n) → (if y then between a b n else expected_below a ms n) ≡ (if y then between a b n else expected_below a ns n)) [
        | true ↦ λ _. refl
        | false ↦ λ f. f refl
      ] same
    ] refl

expected_below-kept : (k n : ℕ) (b : Mark) (ms : List Mark) → k ≤ n → expected_below b (kept (Some k) ms) n ≡ expected_below b ms n
expected_below-kept k n b [] le = refl
expected_below-kept k n b (a ∷ ms) le = expected_below-from k n b a (kept (Some k) ms) ms le (λ e. expected_below-kept k n a ms le)

kept_all : (ms : List Mark) → kept None ms ≡ ms
kept_all [] = refl
kept_all (m ∷ ms) = ap (λ (ns : List Mark). m ∷ ns) (kept_all ms)

-- heights that are kept for a lower number serve a greater one
abbrev pub IsBelow : Option ℕ → ℕ → Type 0
IsBelow None k = ⊤
IsBelow (Some j) k = j ≤ k

kept_from : (o : Option ℕ) (k : ℕ) (m : Mark) (ms : List Mark) → IsBelow o k → kept (Some k) (from_mark o m ms) ≡ from_mark (Some k) m (kept (Some k) ms)
kept_from None k m ms le = refl
kept_from (Some j) k m ms le =
    elim (nat_le m.number j) as (λ x. (nat_le m.number j ≡ x) → kept (Some k) (if x then m ∷ [] else m ∷ ms) ≡ from_mark (Some k) m (kept (Some k) ms)) [
      | true ↦ λ e. let there : nat_le m.number k ≡ true = grind (arith, common_steps) in rw there refl
      | false ↦ λ e. refl
    ] refl

kept_kept : (o : Option ℕ) (k : ℕ) (ms : List Mark) → IsBelow o k → kept (Some k) (kept o ms) ≡ kept (Some k) ms
kept_kept o k [] le = refl
kept_kept o k (m ∷ ms) le = kept_from o k m (kept o ms) le ∙ ap (from_mark (Some k) m) (kept_kept o k ms le)

-- ---- the same with the last two

pub two_all : (ms : List Mark) → kept_two None ms ≡ ms
two_all [] = refl
two_all (m ∷ ms) = ap (λ (ns : List Mark). m ∷ ns) (kept_all ms)

pub two_two : (o : Option ℕ) (k : ℕ) (ms : List Mark) → IsBelow o k → kept_two (Some k) (kept_two o ms) ≡ kept_two (Some k) ms
two_two o k [] le = refl
two_two o k (m ∷ ms) le = ap (λ (ns : List Mark). m ∷ ns) (kept_kept o k ms le)

pub expected-two : (k n : ℕ) (ms : List Mark) → k ≤ n → expected (kept_two (Some k) ms) n ≡ expected ms n
expected-two k n [] le = refl
expected-two k n (m ∷ ms) le = ap (λ (x : ℕ). if nat_le m.number n then m.pts else x) (expected_below-kept k n m ms le)

pub two_after : (o : Option ℕ) (ms : List Mark) → before_another o (kept_two o ms) ≡ kept o ms
two_after o [] = refl
two_after o (m ∷ ms) = refl

-- ---- the latest height

next_two : (o : Option ℕ) (ms : List Mark) (n : ℕ) → is_next_mark (kept_two o ms) n ≡ is_next_mark ms n
next_two o [] n = refl
next_two o (m ∷ ms) n = refl

next_marks : (s : Settings) (ps : List Taken) (n : ℕ) → is_next_mark (marks s ps) n ≡ is_next_height (heights ps) n
next_marks s [] n = refl
next_marks s (p ∷ ps) n =
    elim (is_height ps p) as (λ b. is_next_mark (if b then record { number = p.number; pts = pts_after s ps p } ∷ marks s ps else marks s ps) n ≡ is_next_height (if b then p ∷ heights ps else heights ps) n) [
      | true ↦ refl
      | false ↦ next_marks s ps n
    ]

pub is_next_is : (s : Settings) (o : Option ℕ) (ps : List Taken) (n : ℕ) → is_next_mark (kept_two o (marks s ps)) n ≡ is_next_height (heights ps) n
is_next_is s o ps n = next_two o (marks s ps) n ∙ next_marks s ps n

-- ---- bounds

-- each height has a time below 2^63 and a number of at most t
abbrev pub AreMarksTo : ℕ → List Mark → Type 0
AreMarksTo t [] = ⊤
AreMarksTo t (m ∷ ms) = (m.pts < 2 ^ 63) × (m.number ≤ t) × AreMarksTo t ms

more : (t u : ℕ) (ms : List Mark) → t ≤ u → AreMarksTo t ms → AreMarksTo u ms
more t u [] le h = tt
more t u (m ∷ ms) le h = (h.0, omega arith, more t u ms le h.2)

hold_small : (z : ℤ) → hold z < 2 ^ 63
hold_small (pos n) = omega arith
hold_small (negsuc n) = omega arith

time_small : (rate : ℕ) (o : Option Estimate) (rtp : ℕ) → time_of rate o rtp < 2 ^ 63
time_small rate None rtp = omega arith
time_small rate (Some e) rtp = hold_small _

pub pts_small : (s : Settings) (ps : List Taken) (p : Taken) → pts_after s ps p < 2 ^ 63
pts_small s ps p =
    elim (is_height ps p) as (λ b. (if b then height_time s.rate (estimate_after s.rate s.mode (estimate_of s ps) (height_after (heights ps) p)) else time_of s.rate (estimate_of s ps) p.arrival.packet.rtp) < 2 ^ 63) [
      | true ↦ hold_small _
      | false ↦ time_small s.rate (estimate_of s ps) p.arrival.packet.rtp
    ]

pub marks_to : (s : Settings) (ps : List Taken) → AreMarksTo (unwrap_or (top ps) 0) (marks s ps)
marks_to s [] = tt
marks_to s (p ∷ ps) =
    let rest : AreMarksTo (max p.number (unwrap_or (top ps) 0)) (marks s ps) = more _ _ (marks s ps) (omega arith) (marks_to s ps) in
    elim (is_height ps p) as (λ b. AreMarksTo (max p.number (unwrap_or (top ps) 0)) (if b then record { number = p.number; pts = pts_after s ps p } ∷ marks s ps else marks s ps)) [
      | true ↦ (pts_small s ps p, omega arith, rest)
      | false ↦ rest
    ]

from_mark_to : (t : ℕ) (o : Option ℕ) (m : Mark) (ms : List Mark) → (m.pts < 2 ^ 63) → (m.number ≤ t) → AreMarksTo t ms → AreMarksTo t (from_mark o m ms)
from_mark_to t None m ms a b h = (a, b, h)
from_mark_to t (Some n) m ms a b h =
    elim (nat_le m.number n) as (λ x. AreMarksTo t (if x then m ∷ [] else m ∷ ms)) [
      | true ↦ (a, b, tt)
      | false ↦ (a, b, h)
    ]

kept_to : (t : ℕ) (o : Option ℕ) (ms : List Mark) → AreMarksTo t ms → AreMarksTo t (kept o ms)
kept_to t o [] h = tt
kept_to t o (m ∷ ms) h = from_mark_to t o m (kept o ms) h.0 h.1 (kept_to t o ms h.2)

pub two_to : (t : ℕ) (o : Option ℕ) (ms : List Mark) → AreMarksTo t ms → AreMarksTo t (kept_two o ms)
two_to t o [] h = tt
two_to t o (m ∷ ms) h = (h.0, h.1, kept_to t o ms h.2)

pub marks_bounded : (t : ℕ) (ms : List Mark) → t ≤ 2 ^ 62 → AreMarksTo t ms → AreMarksBounded ms
marks_bounded t [] le h i d lt = absurd (omega arith)
marks_bounded t (m ∷ ms) le h zero d lt = (h.0, omega arith)
marks_bounded t (m ∷ ms) le h (suc i) d lt = marks_bounded t ms le h.2 i d (omega arith)

pub first_small : (s : Settings) (ps : List Taken) (t : ℕ) → first_pts s ps ≡ Some t → t < 2 ^ 63
first_small s [] t e = cc
first_small s (p ∷ []) t e = let is : pts_after s [] p ≡ t = cc in omega (arith, pts_small s [] p, is)
first_small s (p ∷ q ∷ ps) t e = first_small s (q ∷ ps) t e

-- ---- how many there are

-- each height is below t and above the ones after it, and at least l
abbrev pub AreFalling : ℕ → ℕ → List Mark → Type 0
AreFalling l t [] = ⊤
AreFalling l t (m ∷ ms) = (m.number < t) × (l ≤ m.number) × AreFalling l m.number ms

higher : (l t u : ℕ) (ms : List Mark) → t ≤ u → AreFalling l t ms → AreFalling l u ms
higher l t u [] le h = tt
higher l t u (m ∷ ms) le h = (omega (arith, h.0), h.1, h.2)

lower : (l j t : ℕ) (ms : List Mark) → j ≤ l → AreFalling l t ms → AreFalling j t ms
lower l j t [] le h = tt
lower l j t (m ∷ ms) le h = (h.0, omega (arith, h.1), lower l j m.number ms le h.2)

-- a height is above those before it
height_above : (ps : List Taken) (p : Taken) → is_height ps p ≡ true → is_above (top ps) p.number ≡ true
height_above ps p e = grind (arith, common_steps)

no_marks : (s : Settings) (l : ℕ) (ps : List Taken) (p : Taken) → is_above (top ps) p.number ≡ true → AreFalling l (unwrap_or (top ps) 0 + 1) (marks s ps) → AreFalling l p.number (marks s ps)
no_marks s l [] p e h = tt
no_marks s l (q ∷ ps) p e h = higher l _ p.number (marks s (q ∷ ps)) (let lt : max q.number (unwrap_or (top ps) 0) < p.number = grind (arith, common_steps) in omega arith) h

least_lower : (s : Settings) (ps : List Taken) (p : Taken) → AreFalling (unwrap_or (least ps) 0) (unwrap_or (top ps) 0 + 1) (marks s ps) → AreFalling (min p.number (unwrap_or (least ps) p.number)) (unwrap_or (top ps) 0 + 1) (marks s ps)
least_lower s [] p h = tt
least_lower s (q ∷ ps) p h = lower _ _ _ (marks s (q ∷ ps)) (omega arith) h

pub falling : (s : Settings) (ps : List Taken) → AreFalling (unwrap_or (least ps) 0) (unwrap_or (top ps) 0 + 1) (marks s ps)
falling s [] = tt
falling s (p ∷ ps) =
    let l : ℕ = unwrap_or (least (p ∷ ps)) 0 in
    let rest : AreFalling l (unwrap_or (top ps) 0 + 1) (marks s ps) = least_lower s ps p (falling s ps) in
    elim (is_height ps p) as (λ b. is_height ps p ≡ b → AreFalling (unwrap_or (least (p ∷ ps)) 0) (max p.number (unwrap_or (top ps) 0) + 1) (if b then record { number = p.number; pts = pts_after s ps p } ∷ marks s ps else marks s ps)) [
      | true ↦ λ e. (omega arith, omega arith, no_marks s l ps p (height_above ps p e) rest)
      | false ↦ λ e. higher l _ _ (marks s ps) (omega arith) rest
    ] refl

from_mark_falling : (l t : ℕ) (o : Option ℕ) (m : Mark) (ms : List Mark) → m.number < t → l ≤ m.number → AreFalling l m.number ms → AreFalling l t (from_mark o m ms)
from_mark_falling l t None m ms a b h = (a, b, h)
from_mark_falling l t (Some n) m ms a b h =
    elim (nat_le m.number n) as (λ x. AreFalling l t (if x then m ∷ [] else m ∷ ms)) [
      | true ↦ (a, b, tt)
      | false ↦ (a, b, h)
    ]

kept_falling : (l t : ℕ) (o : Option ℕ) (ms : List Mark) → AreFalling l t ms → AreFalling l t (kept o ms)
kept_falling l t o [] h = tt
kept_falling l t o (m ∷ ms) h = from_mark_falling l t o m (kept o ms) h.0 h.1 (kept_falling l m.number o ms h.2)

two_falling : (l t : ℕ) (o : Option ℕ) (ms : List Mark) → AreFalling l t ms → AreFalling l t (kept_two o ms)
two_falling l t o [] h = tt
two_falling l t o (m ∷ ms) h = (h.0, h.1, kept_falling l m.number o ms h.2)

all_under : (l t : ℕ) (ms : List Mark) → AreFalling l t ms → (i : ℕ) (d : Mark) → i < length ms → (slice_index_or ms i d).number < t
all_under l t [] h i d lt = absurd (omega arith)
all_under l t (m ∷ ms) h zero d lt = h.0
all_under l t (m ∷ ms) h (suc i) d lt = omega (arith, h.0, all_under l m.number ms h.2 i d (omega arith))

falling_by_place : (l t : ℕ) (ms : List Mark) → AreFalling l t ms → AreMarksFalling ms
falling_by_place l t [] h i j d lt within = absurd (omega arith)
falling_by_place l t (m ∷ ms) h i zero d lt within = absurd (omega arith)
falling_by_place l t (m ∷ ms) h zero (suc j) d lt within = all_under l m.number ms h.2 j d (omega arith)
falling_by_place l t (m ∷ ms) h (suc i) (suc j) d lt within = falling_by_place l m.number ms h.2 i j d (omega arith) (omega arith)

-- each of the kept heights is greater than those after it
pub kept_order : (s : Settings) (o : Option ℕ) (ps : List Taken) → AreMarksFalling (kept_two o (marks s ps))
kept_order s o ps = falling_by_place _ _ (kept_two o (marks s ps)) (two_falling _ _ o (marks s ps) (falling s ps))

-- down to k there are at most t - k
kept_few : (k l t : ℕ) (ms : List Mark) → AreFalling l t ms → length (kept (Some k) ms) ≤ (t - (k + 1)) + 1
kept_few k l t [] h = omega arith
kept_few k l t (m ∷ ms) h =
    elim (nat_le m.number k) as (λ b. nat_le m.number k ≡ b → length (if b then m ∷ [] else m ∷ kept (Some k) ms) ≤ (t - (k + 1)) + 1) [
      | true ↦ λ e. omega arith
      | false ↦ λ e. let above : k < m.number = grind (arith, common_steps) in omega (arith, h.0, kept_few k l m.number ms h.2)
    ] refl

all_few : (l t : ℕ) (ms : List Mark) → AreFalling l t ms → length ms ≤ t - l
all_few l t [] h = omega arith
all_few l t (m ∷ ms) h = omega (arith, h.0, h.1, all_few l m.number ms h.2)

two_room : (k l t : ℕ) (ms : List Mark) → AreFalling l (t + 1) ms → t < k + 8192 → length (kept_two (Some k) ms) ≤ 8192
two_room k l t [] h lt = omega arith
two_room k l t (m ∷ ms) h lt = omega (arith, h.0, kept_few k l m.number ms h.2)

-- there is room for the kept heights of a window
pub kept_room : (s : Settings) (o : Option ℕ) (ps : List Taken) → InWindow (top ps) (least ps) o → length (kept_two o (marks s ps)) ≤ 8192
kept_room s o [] w = omega arith
kept_room s None (p ∷ ps) w =
    let is : length (kept_two None (marks s (p ∷ ps))) ≡ length (marks s (p ∷ ps)) = ap (λ (ms : List Mark). length ms) (two_all (marks s (p ∷ ps))) in
    omega (arith, is, w.fact.0, w.fact.1, all_few _ _ (marks s (p ∷ ps)) (falling s (p ∷ ps)))
kept_room s (Some k) (p ∷ ps) w = two_room k _ (unwrap_or (top (p ∷ ps)) 0) (marks s (p ∷ ps)) (falling s (p ∷ ps)) w.fact.0
