-- A value that stands for calls stands for them with one more.
use Rattle.std.proofs.Common.{◌≡◌, ◌∙◌, ◌<◌, ◌≤◌, ℕ, ◌+◌, ◌-◌, ◌*◌, ◌/◌, Bool, true, false, cond, List, [], ◌∷◌, ◌++◌, length, drop, Option, Some, None, refl, sym, ap, subst, arith}
use Rattle.std.specs.Prelude.{◌==◌, ◌&&◌, not, slice_index, nat_le, nat_lt}
use Rattle.std.proofs.lemmas.List.{length-drop, length-append}
use Rattle.depay.specs.declared.outcome.Cause.TheVariants.{Large}
use Rattle.depay.specs.declared.outcome.Format.{Format}
use Rattle.depay.specs.declared.outcome.Format.TheVariants.{Pcmu, H264}
use Rattle.depay.specs.declared.outcome.Outcome.{Outcome}
use Rattle.depay.specs.declared.outcome.Outcome.TheVariants.{Unit as Whole, Broken}
use Rattle.depay.specs.declared.fragment.OpenUnit.{OpenUnit}
use Rattle.depay.specs.Payload.{is_over, begins, has_start, has_end, is_fu_a, is_unit_type, fu_type, unit_header, only_starts, is_later_fragment}
use Rattle.depay.specs.Fragments.{Packet, Call, Takes, Gaps, goes_on, are_fragments, oldest, fragment_bytes, joined, are_open, since_start, open_packets, open_in}
use Rattle.depay.specs.Outcomes.{is_continued, first_number, going_on, whole_unit, left_open, alone, outcomes_by, outcomes_of, gap_of}
use Rattle.depay.specs.Joining.{Joining, joining, closed, summary_of, summary, bytes_so_far, StandsFor, unit_goes_on, goes_on_with, unit_next, bytes_next, on_outcomes, on_next, first_of, anew_outcomes, starts, opened_by, anew_next}
use Rattle.depay.proofs.Deciding.{both, both_hold, left_fails, right_fails, and_holds, not_holds, not_fails, refuted, equal, at_most, lt_fails, not_less}

-- ---- what is open, as a look back says

opened_by_test : (s : List Packet) (b : Bool) → are_open s ≡ b → (q : Packet) (earlier : List Packet) → cond b s [] ≡ q ∷ earlier → (s ≡ q ∷ earlier) × (are_open (q ∷ earlier) ≡ true)
opened_by_test s true t q earlier e = (e, ap are_open (sym e) ∙ t)
opened_by_test s false t q earlier e = absurd cc

-- what is open is all since the latest start
pub opened : (calls : List Call) (q : Packet) (earlier : List Packet) → open_packets calls ≡ q ∷ earlier → (since_start calls ≡ q ∷ earlier) × (are_open (q ∷ earlier) ≡ true)
opened calls q earlier e = opened_by_test (since_start calls) (are_open (since_start calls)) refl q earlier e

-- the parts of what is open
pub open_parts : (q : Packet) (earlier : List Packet) → are_open (q ∷ earlier) ≡ true
    → (are_fragments q earlier ≡ true) × (not (has_end q.payload) ≡ true) × (not (is_over (length (joined q earlier))) ≡ true)
open_parts q earlier e =
    let outer = both (are_fragments q earlier && not (has_end q.payload)) (not (is_over (length (joined q earlier)))) e in
    let inner = both (are_fragments q earlier) (not (has_end q.payload)) outer.0 in
    (inner.0, inner.1, outer.1)

-- the parts of the test that a packet goes on
pub going_parts : (q p : Packet) → goes_on q p ≡ true
    → ((p.number == q.number + 1 && p.rtp == q.rtp && is_later_fragment p.payload (slice_index q.payload 0) (fu_type q.payload)) ≡ true) × (not (has_end q.payload) ≡ true)
going_parts q p e = both (p.number == q.number + 1 && p.rtp == q.rtp && is_later_fragment p.payload (slice_index q.payload 0) (fu_type q.payload)) (not (has_end q.payload)) e

pub later_parts : (q p : Packet) → goes_on q p ≡ true
    → (p.rtp ≡ q.rtp) × (slice_index p.payload 0 ≡ slice_index q.payload 0) × (fu_type p.payload ≡ fu_type q.payload) × (has_start p.payload ≡ false)
later_parts q p e =
    let front = (going_parts q p e).0 in
    let a = both (p.number == q.number + 1 && p.rtp == q.rtp) (is_later_fragment p.payload (slice_index q.payload 0) (fu_type q.payload)) front in
    let n = both (p.number == q.number + 1) (p.rtp == q.rtp) a.0 in
    let l = both (nat_le 2 (length p.payload) && slice_index p.payload 0 == slice_index q.payload 0 && fu_type p.payload == fu_type q.payload) (not (has_start p.payload)) a.1 in
    let k = both (nat_le 2 (length p.payload) && slice_index p.payload 0 == slice_index q.payload 0) (fu_type p.payload == fu_type q.payload) l.0 in
    let f = both (nat_le 2 (length p.payload)) (slice_index p.payload 0 == slice_index q.payload 0) k.0 in
    (equal p.rtp q.rtp n.1, equal (slice_index p.payload 0) (slice_index q.payload 0) f.1, equal (fu_type p.payload) (fu_type q.payload) k.1, not_holds (has_start p.payload) l.1)

-- the parts of the test that a payload begins a unit
pub record IsStart (b : List ℕ) : Type 0 where
  pub fu : is_fu_a b ≡ true
  pub two : 2 ≤ length b
  pub kind : is_unit_type (fu_type b) ≡ true
  pub start : has_start b ≡ true
  pub end : not (has_end b) ≡ true
  pub fits : not (is_over (length b - 1)) ≡ true

pub start_parts : (b : List ℕ) → begins b ≡ true → IsStart b
start_parts b e =
    let l = both (is_fu_a b && nat_le 2 (length b) && is_unit_type (fu_type b) && only_starts b) (not (is_over (length b - 1))) e in
    let n = both (is_fu_a b && nat_le 2 (length b) && is_unit_type (fu_type b)) (only_starts b) l.0 in
    let s = both (has_start b) (not (has_end b)) n.1 in
    let t = both (is_fu_a b && nat_le 2 (length b)) (is_unit_type (fu_type b)) n.0 in
    let f = both (is_fu_a b) (nat_le 2 (length b)) t.0 in
    record { fu = f.0; two = at_most 2 (length b) f.1; kind = t.1; start = s.0; end = s.1; fits = l.1 }

-- a packet without the start bit begins nothing
not_start : (b : List ℕ) → has_start b ≡ false → begins b ≡ false
not_start b e = refuted (begins b) (λ t. contradiction (sym (start_parts b t).start ∙ e))
  where
    contradiction : true ≡ false → ⊥
    contradiction c = cc

-- ---- one packet more

kept_by : (x : Bool) (p : Packet) (before s : List Packet) → x ≡ false → before ≡ s → cond x (p ∷ []) (p ∷ before) ≡ p ∷ s
kept_by true p before s e h = absurd cc
kept_by false p before s e h = ap (λ (xs : List Packet). p ∷ xs) h

begun_by : (x : Bool) (p : Packet) (before : List Packet) → x ≡ true → cond x (p ∷ []) (p ∷ before) ≡ p ∷ []
begun_by true p before e = refl
begun_by false p before e = absurd cc

-- what is open, where all since the latest start is this list
open_as : (calls : List Call) (s : List Packet) (b : Bool) → since_start calls ≡ s → are_open s ≡ b → open_packets calls ≡ cond b s []
open_as calls s b e t = ap (λ (xs : List Packet). cond (are_open xs) xs []) e ∙ ap (λ (x : Bool). cond x s []) t

-- a packet that begins a unit
begun_length : (p : Packet) → 2 ≤ length p.payload → length (joined p []) ≡ length p.payload - 1
begun_length p two = omega (arith, length-drop 2 p.payload)

pub open_begun : (calls : List Call) (p : Packet) → begins p.payload ≡ true → open_packets (Takes p ∷ calls) ≡ p ∷ []
open_begun calls p e =
    let parts = start_parts p.payload e in
    let fits : not (is_over (length (joined p []))) ≡ true = ap (λ n. not (is_over n)) (begun_length p parts.two) ∙ parts.fits in
    let test : are_open (p ∷ []) ≡ true = both_hold (begins p.payload && not (has_end p.payload)) (not (is_over (length (joined p [])))) (both_hold (begins p.payload) (not (has_end p.payload)) e parts.end) fits in
    open_as (Takes p ∷ calls) (p ∷ []) true (begun_by (begins p.payload) p (since_start calls) e) test

-- a packet that goes on
pub open_gone_on : (calls : List Call) (p q : Packet) (earlier : List Packet) → open_packets calls ≡ q ∷ earlier → goes_on q p ≡ true
    → open_packets (Takes p ∷ calls) ≡ cond (not (has_end p.payload) && not (is_over (length (joined p (q ∷ earlier))))) (p ∷ q ∷ earlier) []
open_gone_on calls p q earlier o g =
    let before = opened calls q earlier o in
    let later = later_parts q p g in
    let list : since_start (Takes p ∷ calls) ≡ p ∷ q ∷ earlier = kept_by (begins p.payload) p (since_start calls) (q ∷ earlier) (not_start p.payload later.3) before.0 in
    let fragments : (goes_on q p && are_fragments q earlier) ≡ true = both_hold (goes_on q p) (are_fragments q earlier) g (open_parts q earlier before.1).0 in
    let test : are_open (p ∷ q ∷ earlier) ≡ (not (has_end p.payload) && not (is_over (length (joined p (q ∷ earlier))))) =
    ap (λ (x : Bool). x && not (has_end p.payload) && not (is_over (length (joined p (q ∷ earlier))))) fragments
    in
    open_as (Takes p ∷ calls) (p ∷ q ∷ earlier) (not (has_end p.payload) && not (is_over (length (joined p (q ∷ earlier))))) list test

-- any other packet
smaller : (m n : ℕ) → m ≤ n → not (is_over n) ≡ true → not (is_over m) ≡ true
smaller m n le e =
    let fits : n ≤ 1048576 = not_less 1048576 n (not_holds (is_over n) e) in
    not_fails (is_over m) (lt_fails 1048576 m (omega arith))

grows : (p q : Packet) (earlier : List Packet) → length (joined q earlier) ≤ length (joined p (q ∷ earlier))
grows p q earlier = omega (arith, length-append (fragment_bytes (q ∷ earlier)) (drop 2 p.payload))

continued_by : (b : Bool) (q p : Packet) (earlier : List Packet) → b ≡ true → is_continued (cond b (q ∷ earlier) []) p ≡ goes_on q p
continued_by true q p earlier e = refl
continued_by false q p earlier e = absurd cc

not_open : (p : Packet) (s : List Packet) → begins p.payload ≡ false → is_continued (cond (are_open s) s []) p ≡ false → are_open (p ∷ s) ≡ false
not_open p [] e c = left_fails (begins p.payload && not (has_end p.payload)) (not (is_over (length (joined p [])))) (left_fails (begins p.payload) (not (has_end p.payload)) e)
not_open p (q ∷ earlier) e c = refuted (are_open (p ∷ q ∷ earlier)) (λ t. contradiction (sym (holds t) ∙ c))
  where
    contradiction : true ≡ false → ⊥
    contradiction x = cc

    holds : are_open (p ∷ q ∷ earlier) ≡ true → is_continued (cond (are_open (q ∷ earlier)) (q ∷ earlier) []) p ≡ true
    holds t =
        let parts = open_parts p (q ∷ earlier) t in
        let run = both (goes_on q p) (are_fragments q earlier) parts.0 in
        let fits : not (is_over (length (joined q earlier))) ≡ true = smaller (length (joined q earlier)) (length (joined p (q ∷ earlier))) (grows p q earlier) parts.2 in
        let before : are_open (q ∷ earlier) ≡ true =
        both_hold (are_fragments q earlier && not (has_end q.payload)) (not (is_over (length (joined q earlier)))) (both_hold (are_fragments q earlier) (not (has_end q.payload)) run.1 (going_parts q p run.0).1) fits
        in
        continued_by (are_open (q ∷ earlier)) q p earlier before ∙ run.0

pub open_other : (calls : List Call) (p : Packet) → begins p.payload ≡ false → is_continued (open_packets calls) p ≡ false → open_packets (Takes p ∷ calls) ≡ []
open_other calls p e c =
    open_as (Takes p ∷ calls) (p ∷ since_start calls) false (kept_by (begins p.payload) p (since_start calls) (since_start calls) e refl) (not_open p (since_start calls) e c)

-- ---- a packet that goes on with the open unit

-- the test on what is kept is the test on the latest packet
same_test : (q p : Packet) (earlier : List Packet) → not (has_end q.payload) ≡ true → goes_on q p ≡ unit_goes_on (summary_of q earlier) p
same_test q p earlier e = and_holds (p.number == q.number + 1 && p.rtp == q.rtp && is_later_fragment p.payload (slice_index q.payload 0) (fu_type q.payload)) (not (has_end q.payload)) e

same_header : (q p : Packet) → goes_on q p ≡ true → unit_header p.payload ≡ unit_header q.payload
same_header q p g =
    let later = later_parts q p g in
    ap (λ (n : ℕ). n / 32 * 32 + fu_type p.payload) later.1 ∙ ap (λ (n : ℕ). slice_index q.payload 0 / 32 * 32 + n) later.2

abbrev on_outcomes_by : Bool → Bool → OpenUnit → Packet → List ℕ → List Outcome
on_outcomes_by large end u p bytes = cond large (Broken p.number Large ∷ []) (cond end (Whole u.first p.number u.pts bytes ∷ []) [])

-- what goes on: the bytes, and what is kept
bytes_more : (q p : Packet) (earlier : List Packet) → goes_on q p ≡ true → joined q earlier ++ drop 2 p.payload ≡ joined p (q ∷ earlier)
bytes_more q p earlier g = ap (λ (h : ℕ). h ∷ (fragment_bytes (q ∷ earlier) ++ drop 2 p.payload)) (sym (same_header q p g))

summary_more : (q p : Packet) (earlier : List Packet) → goes_on q p ≡ true → unit_next (summary_of q earlier) p ≡ summary_of p (q ∷ earlier)
summary_more q p earlier g =
    let later = later_parts q p g in
    λ i. record {
      first = (oldest q earlier).number;
      last = p.number;
      rtp = sym later.0 i;
      pts = (oldest q earlier).pts;
      indicator = sym later.1 i;
      kind = sym later.2 i;
    }

stands_on_by : (large end : Bool) (format : Format) (u : OpenUnit) (bytes : List ℕ) (p : Packet) (earlier : List Packet) (calls : List Call)
    → open_in format calls ≡ cond (not end && not large) (p ∷ earlier) [] → u ≡ summary_of p earlier → bytes ≡ joined p earlier
    → StandsFor (cond large (joining format None []) (cond end (joining format None []) (joining format (Some u) bytes))) format calls
stands_on_by true true format u bytes p earlier calls o s b = record { format_is = refl; unit_is = ap summary (sym o); bytes_are = ap bytes_so_far (sym o) }
stands_on_by true false format u bytes p earlier calls o s b = record { format_is = refl; unit_is = ap summary (sym o); bytes_are = ap bytes_so_far (sym o) }
stands_on_by false true format u bytes p earlier calls o s b = record { format_is = refl; unit_is = ap summary (sym o); bytes_are = ap bytes_so_far (sym o) }
stands_on_by false false format u bytes p earlier calls o s b =
    record { format_is = refl; unit_is = ap (λ (x : OpenUnit). Some x) s ∙ ap summary (sym o); bytes_are = b ∙ ap bytes_so_far (sym o) }

-- what was said and is kept, for the state of an open unit
pub record GoesOn (d : Joining) (u : OpenUnit) (format : Format) (calls : List Call) (p : Packet) : Type 0 where
  pub outcomes : on_outcomes d u p ≡ outcomes_of format calls p
  pub stands : StandsFor (on_next d u p) format (Takes p ∷ calls)

on_at : (calls : List Call) (p q : Packet) (earlier : List Packet) → open_packets calls ≡ q ∷ earlier → goes_on q p ≡ true
    → GoesOn (joining H264 (Some (summary_of q earlier)) (joined q earlier)) (summary_of q earlier) H264 calls p
on_at calls p q earlier o g =
    let bytes = bytes_more q p earlier g in
    let large : is_over (length (joined q earlier ++ drop 2 p.payload)) ≡ is_over (length (joined p (q ∷ earlier))) = ap (λ (b : List ℕ). is_over (length b)) bytes in
    let next = open_gone_on calls p q earlier o g in
    let told : on_outcomes_by (is_over (length (joined q earlier ++ drop 2 p.payload))) (has_end p.payload) (summary_of q earlier) p (joined q earlier ++ drop 2 p.payload) ≡ going_on p (q ∷ earlier) =
    ap (λ (b : List ℕ). on_outcomes_by (is_over (length b)) (has_end p.payload) (summary_of q earlier) p b) bytes
    in
    let asked : outcomes_of H264 calls p ≡ going_on p (q ∷ earlier) =
    ap (λ (fs : List Packet). outcomes_by H264 fs p) o ∙ going_by (goes_on q p) g
    in
    record {
      outcomes = told ∙ sym asked;
      stands = subst (λ (b : List ℕ). StandsFor (cond (is_over (length b)) (joining H264 None []) (cond (has_end p.payload) (joining H264 None []) (joining H264 (Some (unit_next (summary_of q earlier) p)) b))) H264 (Takes p ∷ calls)) (sym bytes)
          (stands_on_by (is_over (length (joined p (q ∷ earlier)))) (has_end p.payload) H264 (unit_next (summary_of q earlier) p) (joined p (q ∷ earlier)) p (q ∷ earlier) (Takes p ∷ calls) next (summary_more q p earlier g) refl);
    }
  where
    going_by : (b : Bool) → b ≡ true → cond b (going_on p (q ∷ earlier)) (left_open (first_number (q ∷ earlier)) ++ alone H264 p) ≡ going_on p (q ∷ earlier)
    going_by true e = refl
    going_by false e = absurd cc

-- a value with nothing open goes on with nothing
on_from : (d : Joining) (u : OpenUnit) (format : Format) (calls : List Call) (p : Packet) (fs : List Packet) → open_in format calls ≡ fs
    → StandsFor d format calls → d.unit ≡ Some u → unit_goes_on u p ≡ true → GoesOn d u format calls p
on_from d u format calls p [] o stands unit g = absurd (nothing (sym unit ∙ stands.unit_is ∙ ap summary o))
  where
    nothing : Some u ≡ None → ⊥
    nothing e = cc
on_from d u Pcmu calls p (q ∷ earlier) o stands unit g = absurd cc
on_from d u H264 calls p (q ∷ earlier) o stands unit g =
    let kept : d.unit ≡ Some (summary_of q earlier) = stands.unit_is ∙ ap summary o in
    let same : summary_of q earlier ≡ u = taken (sym kept ∙ unit) in
    let bytes : d.bytes ≡ joined q earlier = stands.bytes_are ∙ ap bytes_so_far o in
    let end = (open_parts q earlier (opened calls q earlier o).1).1 in
    let goes : goes_on q p ≡ true = same_test q p earlier end ∙ ap (λ (x : OpenUnit). unit_goes_on x p) same ∙ g in
    let value : joining H264 (Some (summary_of q earlier)) (joined q earlier) ≡ d = λ i. record { format = sym stands.format_is i; unit = sym kept i; bytes = sym bytes i } in
    subst (λ (x : Joining). GoesOn x u H264 calls p) value
    (subst (λ (x : OpenUnit). GoesOn (joining H264 (Some (summary_of q earlier)) (joined q earlier)) x H264 calls p) same (on_at calls p q earlier o goes))
  where
    taken : {a b : OpenUnit} → Some a ≡ Some b → a ≡ b
    taken e = cc

pub goes_on_stands : (d : Joining) (u : OpenUnit) (format : Format) (calls : List Call) (p : Packet) → StandsFor d format calls → d.unit ≡ Some u → unit_goes_on u p ≡ true
    → GoesOn d u format calls p
goes_on_stands d u format calls p stands unit g = on_from d u format calls p (open_in format calls) refl stands unit g

-- ---- any other packet

first_is : (fs : List Packet) → first_of (summary fs) ≡ first_number fs
first_is [] = refl
first_is (q ∷ earlier) = refl

not_continued : (p : Packet) (fs : List Packet) → goes_on_with (summary fs) p ≡ false → is_continued fs p ≡ false
not_continued p [] g = refl
not_continued p (q ∷ earlier) g = left_fails (p.number == q.number + 1 && p.rtp == q.rtp && is_later_fragment p.payload (slice_index q.payload 0) (fu_type q.payload)) (not (has_end q.payload)) g

pub record StartsAnew (d : Joining) (format : Format) (calls : List Call) (p : Packet) : Type 0 where
  pub outcomes : anew_outcomes d p ≡ outcomes_of format calls p
  pub stands : StandsFor (anew_next d p) format (Takes p ∷ calls)

anew_by : (b : Bool) (fs : List Packet) (p : Packet) (out : List Outcome) → b ≡ false → cond b (going_on p fs) out ≡ out
anew_by true fs p out e = absurd cc
anew_by false fs p out e = refl

stands_anew : (format : Format) (calls : List Call) (p : Packet) → is_continued (open_in format calls) p ≡ false
    → StandsFor (cond (starts format p) (joining format (Some (opened_by p)) (unit_header p.payload ∷ drop 2 p.payload)) (joining format None [])) format (Takes p ∷ calls)
stands_anew Pcmu calls p c = record { format_is = refl; unit_is = refl; bytes_are = refl }
stands_anew H264 calls p c = by (begins p.payload) refl
  where
    by : (b : Bool) → begins p.payload ≡ b → StandsFor (cond b (joining H264 (Some (opened_by p)) (unit_header p.payload ∷ drop 2 p.payload)) (joining H264 None [])) H264 (Takes p ∷ calls)
    by true e = let o = open_begun calls p e in record { format_is = refl; unit_is = ap summary (sym o); bytes_are = ap bytes_so_far (sym o) }
    by false e = let o = open_other calls p e c in record { format_is = refl; unit_is = ap summary (sym o); bytes_are = ap bytes_so_far (sym o) }

pub starts_anew_stands : (d : Joining) (format : Format) (calls : List Call) (p : Packet) → StandsFor d format calls → goes_on_with d.unit p ≡ false → StartsAnew d format calls p
starts_anew_stands d format calls p stands g =
    let fs = open_in format calls in
    let c : is_continued fs p ≡ false = not_continued p fs (ap (λ (o : Option OpenUnit). goes_on_with o p) (sym stands.unit_is) ∙ g) in
    let first : first_of d.unit ≡ first_number fs = ap first_of stands.unit_is ∙ first_is fs in
    let told : anew_outcomes d p ≡ left_open (first_number fs) ++ alone format p =
    ap (λ (o : Option ℕ). left_open o ++ alone d.format p) first ∙ ap (λ (f : Format). left_open (first_number fs) ++ alone f p) stands.format_is
    in
    record {
      outcomes = told ∙ sym (anew_by (is_continued fs p) fs p (left_open (first_number fs) ++ alone format p) c);
      stands = subst (λ (f : Format). StandsFor (cond (starts f p) (joining f (Some (opened_by p)) (unit_header p.payload ∷ drop 2 p.payload)) (joining f None [])) format (Takes p ∷ calls)) (sym stands.format_is) (stands_anew format calls p c);
    }

-- ---- a gap

nothing_since : (format : Format) (calls : List Call) → open_in format (Gaps ∷ calls) ≡ []
nothing_since Pcmu calls = refl
nothing_since H264 calls = refl

pub gap_stands : (d : Joining) (format : Format) (calls : List Call) → StandsFor d format calls → StandsFor (closed d) format (Gaps ∷ calls)
gap_stands d format calls stands =
    let o = nothing_since format calls in record { format_is = stands.format_is; unit_is = ap summary (sym o); bytes_are = ap bytes_so_far (sym o) }

pub gap_is : (d : Joining) (format : Format) (calls : List Call) → StandsFor d format calls → first_of d.unit ≡ gap_of format calls
gap_is d format calls stands = ap first_of stands.unit_is ∙ first_is (open_in format calls)

pub new_stands : (format : Format) → StandsFor (joining format None []) format []
new_stands Pcmu = record { format_is = refl; unit_is = refl; bytes_are = refl }
new_stands H264 = record { format_is = refl; unit_is = refl; bytes_are = refl }
