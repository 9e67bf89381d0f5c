-- Units are whole.
use Rattle.std.proofs.Common.{◌≡◌, ◌∙◌, ◌<◌, ◌≤◌, ◌⊎◌, ℕ, zero, suc, ◌+◌, ◌%◌, Bool, true, false, cond, List, [], ◌∷◌, ◌++◌, map, length, Option, Some, None, refl, sym, ap, subst, inl, inr, arith}
use Rattle.std.specs.Prelude.{◌==◌, ◌&&◌, not, nat_le, slice_index, slice_index_or, Contains}
use Rattle.std.proofs.lemmas.List.Elements.{Contains-append_cases}
use Rattle.depay.specs.declared.outcome.Cause.{Cause}
use Rattle.depay.specs.declared.outcome.Cause.TheVariants.{Large, Incomplete}
use Rattle.depay.specs.declared.outcome.Format.{Format}
use Rattle.depay.specs.declared.outcome.Format.TheVariants.{Pcmu, H264}
use Rattle.depay.specs.declared.outcome.Outcome.{Outcome}
use Rattle.depay.specs.declared.outcome.Outcome.TheVariants.{Unit as Whole, Broken}
use Rattle.depay.specs.Payload.{is_over, begins, has_start, has_end, nal_type, fu_type, fault_of, units_by, is_later_fragment}
use Rattle.depay.specs.Fragments.{Packet, Call, Takes, Gaps, goes_on, are_fragments, oldest, joined, are_open, since_start, open_packets, open_in}
use Rattle.depay.specs.Outcomes.{is_continued, first_number, going_on, whole_unit, left_open, single_unit, alone_by, alone, outcomes_by, outcomes_of}
use Rattle.depay.specs.Laws.{AreConsecutive, IsFragmentOf, AreFragmentsOf, StartsOnce, EndNowhere, IsAlone, IsJoined, IsWhole, UnitsAreWhole}
use Rattle.depay.proofs.Deciding.{both, not_holds, equal, not_less}
use Rattle.depay.proofs.Standing.{opened, open_parts, going_parts, later_parts, start_parts}

-- ---- elements of short lists

in_none : {X : Type 0} (x : X) → Contains [] x → ⊥
in_none x (k, lt, e) = absurd (omega (arith, lt))

in_front : {X : Type 0} (y : X) (ys : List X) (x : X) → Contains (y ∷ ys) x → (y ≡ x) ⊎ Contains ys x
in_front y ys x (zero, lt, e) = inl e
in_front y ys x (suc k, lt, e) = inr (k, omega (arith, lt), e)

in_one : {X : Type 0} (y x : X) → Contains (y ∷ []) x → y ≡ x
in_one {X} y x c = by (in_front y [] x c)
  where
    by : (y ≡ x) ⊎ Contains [] x → y ≡ x
    by (inl e) = e
    by (inr h) = absurd (in_none x h)

-- ---- the packets of an open unit are neighbours

listed_by : (b : Bool) (p : Packet) (calls : List Call) → ((before : List Call) × (calls ≡ map Takes (since_start calls) ++ before))
    → (before : List Call) × (Takes p ∷ calls ≡ map Takes (cond b (p ∷ []) (p ∷ since_start calls)) ++ before)
listed_by true p calls rest = (calls, refl)
listed_by false p calls rest = (rest.0, ap (λ (cs : List Call). Takes p ∷ cs) rest.1)

listed : (calls : List Call) → (before : List Call) × (calls ≡ map Takes (since_start calls) ++ before)
listed [] = ([], refl)
listed (Gaps ∷ calls) = (Gaps ∷ calls, refl)
listed (Takes p ∷ calls) = listed_by (begins p.payload) p calls (listed calls)

-- ---- what fragments have in common

next_number : (q p : Packet) → goes_on q p ≡ true → p.number ≡ q.number + 1
next_number q p g =
    let a = both (p.number == q.number + 1 && p.rtp == q.rtp) (is_later_fragment p.payload (slice_index q.payload 0) (fu_type q.payload)) (going_parts q p g).0 in
    equal p.number (q.number + 1) (both (p.number == q.number + 1) (p.rtp == q.rtp) a.0).0

consecutive : (p : Packet) (earlier : List Packet) → are_fragments p earlier ≡ true → AreConsecutive (oldest p earlier).number p earlier
consecutive p [] e = refl
consecutive p (q ∷ earlier) e = let parts = both (goes_on q p) (are_fragments q earlier) e in (next_number q p parts.0, consecutive q earlier parts.1)

starts_once : (p : Packet) (earlier : List Packet) → are_fragments p earlier ≡ true → StartsOnce p earlier
starts_once p [] e = (start_parts p.payload e).start
starts_once p (q ∷ earlier) e = let parts = both (goes_on q p) (are_fragments q earlier) e in ((later_parts q p parts.0).3, starts_once q earlier parts.1)

end_nowhere : (p : Packet) (earlier : List Packet) → are_fragments p earlier ≡ true → EndNowhere earlier
end_nowhere p [] e = tt
end_nowhere p (q ∷ earlier) e =
    let parts = both (goes_on q p) (are_fragments q earlier) e in (not_holds (has_end q.payload) (going_parts q p parts.0).1, end_nowhere q earlier parts.1)

-- what is like a packet is like the one that goes on with it
alike_next : (q p : Packet) (xs : List Packet) → goes_on q p ≡ true → AreFragmentsOf q xs → AreFragmentsOf p xs
alike_next q p [] g a = tt
alike_next q p (x ∷ xs) g a =
    let later = later_parts q p g in
    (record { kind = a.0.kind; rtp = a.0.rtp ∙ sym later.0; first_byte = a.0.first_byte ∙ sym later.1; unit_type = a.0.unit_type ∙ sym later.2 }, alike_next q p xs g a.1)

alike : (p : Packet) (earlier : List Packet) → are_fragments p earlier ≡ true → AreFragmentsOf p (p ∷ earlier)
alike p [] e = (record { kind = equal (nal_type p.payload) 28 (start_parts p.payload e).fu; rtp = refl; first_byte = refl; unit_type = refl }, tt)
alike p (q ∷ earlier) e =
    let parts = both (goes_on q p) (are_fragments q earlier) e in
    let rest = alike q earlier parts.1 in
    let same : slice_index p.payload 0 ≡ slice_index q.payload 0 = (later_parts q p parts.0).1 in
    (record { kind = ap (λ (n : ℕ). n % 32) same ∙ rest.0.kind; rtp = refl; first_byte = refl; unit_type = refl }, alike_next q p (q ∷ earlier) parts.0 rest)

-- ---- a unit of fragments

told : (first last pts : ℕ) (bytes : List ℕ) (p : Packet) (earlier : List Packet) → whole_unit p earlier ≡ Whole first last pts bytes
    → ((oldest p earlier).number ≡ first) × (p.number ≡ last) × ((oldest p earlier).pts ≡ pts) × (joined p earlier ≡ bytes)
told first last pts bytes p earlier e = (cc, cc, cc, cc)

no_broken : (number : ℕ) (cause : Cause) (first last pts : ℕ) (bytes : List ℕ) → Broken number cause ≡ Whole first last pts bytes → ⊥
no_broken number cause first last pts bytes e = cc

from_going : (p : Packet) (earlier : List Packet) (first last pts : ℕ) (bytes : List ℕ) (large end : Bool) → is_over (length (joined p earlier)) ≡ large → has_end p.payload ≡ end
    → Contains (cond large (Broken p.number Large ∷ []) (cond end (whole_unit p earlier ∷ []) [])) (Whole first last pts bytes)
    → (large ≡ false) × (end ≡ true) × (whole_unit p earlier ≡ Whole first last pts bytes)
from_going p earlier first last pts bytes true end l e c = absurd (no_broken p.number Large first last pts bytes (in_one (Broken p.number Large) (Whole first last pts bytes) c))
from_going p earlier first last pts bytes false true l e c = (refl, refl, in_one (whole_unit p earlier) (Whole first last pts bytes) c)
from_going p earlier first last pts bytes false false l e c = absurd (in_none (Whole first last pts bytes) c)

fragments_whole : (calls : List Call) (p q : Packet) (earlier : List Packet) (first last pts : ℕ) (bytes : List ℕ) → open_packets calls ≡ q ∷ earlier → goes_on q p ≡ true
    → Contains (going_on p (q ∷ earlier)) (Whole first last pts bytes) → IsWhole H264 calls p first last pts bytes
fragments_whole calls p q earlier first last pts bytes o g c =
    let since = opened calls q earlier o in
    let run : are_fragments p (q ∷ earlier) ≡ true = holds (goes_on q p) (are_fragments q earlier) g (open_parts q earlier since.1).0 in
    let found = from_going p (q ∷ earlier) first last pts bytes (is_over (length (joined p (q ∷ earlier)))) (has_end p.payload) refl refl c in
    let parts = told first last pts bytes p (q ∷ earlier) found.2 in
    let list = listed calls in
    record {
      earlier = q ∷ earlier;
      before = list.0;
      neighbours = list.1 ∙ ap (λ (xs : List Packet). map Takes xs ++ list.0) since.0;
      consecutive = subst (λ (n : ℕ). AreConsecutive n p (q ∷ earlier)) parts.0 (consecutive p (q ∷ earlier) run);
      last_is = sym parts.1;
      pts_is = sym parts.2;
      made = inr (record {
        format_is = refl;
        alike = alike p (q ∷ earlier) run;
        starts = starts_once p (q ∷ earlier) run;
        end = found.1;
        ends_once = end_nowhere p (q ∷ earlier) run;
        bytes_are = sym parts.3;
        fits = subst (λ (b : List ℕ). length b ≤ 1048576) parts.3 (not_less 1048576 (length (joined p (q ∷ earlier))) found.0);
      });
    }
  where
    holds : (a b : Bool) → a ≡ true → b ≡ true → (a && b) ≡ true
    holds true b x y = y
    holds false b x y = absurd cc

-- ---- a unit of one packet

single_parts : (p : Packet) (u : List ℕ) (first last pts : ℕ) (bytes : List ℕ) → single_unit p u ≡ Whole first last pts bytes
    → (p.number ≡ first) × (p.number ≡ last) × (p.pts ≡ pts) × (u ≡ bytes)
single_parts p u first last pts bytes e = (cc, cc, cc, cc)

abbrev Holding : Packet → List (List ℕ) → ℕ → ℕ → ℕ → List ℕ → Type 0
Holding p units first last pts bytes = (p.number ≡ first) × (p.number ≡ last) × (p.pts ≡ pts) × Contains units bytes

in_map_by : (p : Packet) (u : List ℕ) (units : List (List ℕ)) (first last pts : ℕ) (bytes : List ℕ)
    → (Contains (map (single_unit p) units) (Whole first last pts bytes) → Holding p units first last pts bytes)
    → (single_unit p u ≡ Whole first last pts bytes) ⊎ Contains (map (single_unit p) units) (Whole first last pts bytes) → Holding p (u ∷ units) first last pts bytes
in_map_by p u units first last pts bytes rest (inl e) = let h = single_parts p u first last pts bytes e in (h.0, h.1, h.2, (0, omega arith, h.3))
in_map_by p u units first last pts bytes rest (inr c) = let h = rest c in (h.0, h.1, h.2, (suc h.3.0, omega (arith, h.3.1), h.3.2))

in_map : (p : Packet) (units : List (List ℕ)) (first last pts : ℕ) (bytes : List ℕ) → Contains (map (single_unit p) units) (Whole first last pts bytes) → Holding p units first last pts bytes
in_map p [] first last pts bytes c = absurd (in_none (Whole first last pts bytes) c)
in_map p (u ∷ units) first last pts bytes c =
    in_map_by p u units first last pts bytes (λ h. in_map p units first last pts bytes h) (in_front (single_unit p u) (map (single_unit p) units) (Whole first last pts bytes) c)

alone_whole : (format : Format) (calls : List Call) (p : Packet) (first last pts : ℕ) (bytes : List ℕ) (fault : Option Cause) → fault_of format p.payload ≡ fault
    → Contains (alone_by p fault (units_by format p.payload)) (Whole first last pts bytes) → IsWhole format calls p first last pts bytes
alone_whole format calls p first last pts bytes (Some cause) f c = absurd (no_broken p.number cause first last pts bytes (in_one (Broken p.number cause) (Whole first last pts bytes) c))
alone_whole format calls p first last pts bytes None f c =
    let h = in_map p (units_by format p.payload) first last pts bytes c in
    record {
      earlier = [];
      before = calls;
      neighbours = refl;
      consecutive = h.0;
      last_is = sym h.1;
      pts_is = sym h.2;
      made = inl (record { only = refl; sound = f; unit = h.3 });
    }

left_whole : (o : Option ℕ) (first last pts : ℕ) (bytes : List ℕ) → Contains (left_open o) (Whole first last pts bytes) → ⊥
left_whole None first last pts bytes c = in_none (Whole first last pts bytes) c
left_whole (Some n) first last pts bytes c = no_broken n Incomplete first last pts bytes (in_one (Broken n Incomplete) (Whole first last pts bytes) c)

other_whole : (format : Format) (calls : List Call) (p : Packet) (o : Option ℕ) (first last pts : ℕ) (bytes : List ℕ)
    → Contains (left_open o ++ alone format p) (Whole first last pts bytes) → IsWhole format calls p first last pts bytes
other_whole format calls p o first last pts bytes c = by (Contains-append_cases (left_open o) (alone format p) (Whole first last pts bytes) c)
  where
    by : Contains (left_open o) (Whole first last pts bytes) ⊎ Contains (alone format p) (Whole first last pts bytes) → IsWhole format calls p first last pts bytes
    by (inl h) = absurd (left_whole o first last pts bytes h)
    by (inr h) = alone_whole format calls p first last pts bytes (fault_of format p.payload) refl h

-- ---- every unit

whole_by : (calls : List Call) (p : Packet) (first last pts : ℕ) (bytes : List ℕ) (fs : List Packet) → open_packets calls ≡ fs
    → Contains (outcomes_by H264 fs p) (Whole first last pts bytes) → IsWhole H264 calls p first last pts bytes
whole_by calls p first last pts bytes [] o c = other_whole H264 calls p None first last pts bytes c
whole_by calls p first last pts bytes (q ∷ earlier) o c = by (goes_on q p) refl c
  where
    by : (b : Bool) → goes_on q p ≡ b → Contains (cond b (going_on p (q ∷ earlier)) (left_open (first_number (q ∷ earlier)) ++ alone H264 p)) (Whole first last pts bytes)
        → IsWhole H264 calls p first last pts bytes
    by true g h = fragments_whole calls p q earlier first last pts bytes o g h
    by false g h = other_whole H264 calls p (first_number (q ∷ earlier)) first last pts bytes h

whole_in : (format : Format) (calls : List Call) (p : Packet) (first last pts : ℕ) (bytes : List ℕ)
    → Contains (outcomes_of format calls p) (Whole first last pts bytes) → IsWhole format calls p first last pts bytes
whole_in Pcmu calls p first last pts bytes c = other_whole Pcmu calls p None first last pts bytes c
whole_in H264 calls p first last pts bytes c = whole_by calls p first last pts bytes (open_packets calls) refl c

pub units_are_whole : UnitsAreWhole
units_are_whole = λ format calls p first last pts bytes c. whole_in format calls p first last pts bytes c
