-- What a payload is, by the tests that it passes and fails.
use Rattle.std.proofs.Common.{◌≡◌, ◌∙◌, ◌<◌, ◌≤◌, ℕ, ◌+◌, ◌-◌, Bool, true, false, cond, List, [], ◌∷◌, length, map, drop, Option, Some, None, Ok, Err, refl, sym, ap, arith}
use Rattle.std.specs.Prelude.{◌==◌, ◌&&◌, ◌||◌, not, is_some, nat_lt, nat_le}
use Rattle.depay.specs.declared.outcome.Cause.{Cause}
use Rattle.depay.specs.declared.outcome.Cause.TheVariants.{Empty, Kind, Size, Fragment, Large}
use Rattle.depay.specs.declared.outcome.Format.TheVariants.{H264}
use Rattle.depay.specs.declared.payload.Shape.TheVariants.{Single, Aggregate, Start}
use Rattle.depay.specs.Aggregate.{is_filled, units_in, units_of}
use Rattle.depay.specs.Payload.{nal_type, is_unit_type, is_stap_a, is_fu_a, fu_type, has_start, has_end, only_starts, is_over, is_large, first_fitting, fault_of, h264_units, begins}
use Rattle.depay.specs.declared.outcome.Outcome.TheVariants.{Broken}
use Rattle.depay.specs.Fragments.{Packet}
use Rattle.depay.specs.Outcomes.{single_unit, alone_by, alone}
use Rattle.depay.specs.Shapes.{Holds, Fails, IsShape}
use Rattle.depay.proofs.Deciding.{both, both_hold, left_fails, right_fails, not_holds, not_fails, refuted, equal, eq_holds, eq_fails, lt_holds, lt_fails, le_holds}
use Rattle.depay.proofs.Standing.{start_parts}

-- the tests by their parts
abbrev fault_by : Bool → Bool → Bool → Bool → Bool → Bool → Bool → Bool → Bool → Option Cause
fault_by empty fu short unit stap fu_unit filled starts large =
    first_fitting
    ((empty, Empty) ∷ (fu && short, Fragment) ∷ (not (unit || stap || (fu && fu_unit)), Kind) ∷ (stap && not filled, Size) ∷ (fu && not starts, Fragment) ∷ (large, Large) ∷ [])

-- ---- which tests fit

empty_by : (e f h u s k i t l : Bool) → e ≡ true → fault_by e f h u s k i t l ≡ Some Empty
empty_by true f h u s k i t l p = refl
empty_by false f h u s k i t l p = absurd cc

kind_by : (e f h u s k i t l : Bool) → e ≡ false → f ≡ false → u ≡ false → s ≡ false → fault_by e f h u s k i t l ≡ Some Kind
kind_by false false h false false k i t l p q r v = refl
kind_by e f h u s k i t l p q r v = absurd cc

single_by : (e f h u s k i t l : Bool) → e ≡ false → f ≡ false → u ≡ true → s ≡ false → fault_by e f h u s k i t l ≡ cond l (Some Large) None
single_by false false h true false k i t l p q r v = refl
single_by e f h u s k i t l p q r v = absurd cc

short_by : (e f h u s k i t l : Bool) → e ≡ false → f ≡ true → h ≡ true → fault_by e f h u s k i t l ≡ Some Fragment
short_by false true true u s k i t l p q r = refl
short_by e f h u s k i t l p q r = absurd cc

fu_kind_by : (e f h u s k i t l : Bool) → e ≡ false → f ≡ true → h ≡ false → u ≡ false → s ≡ false → k ≡ false → fault_by e f h u s k i t l ≡ Some Kind
fu_kind_by false true false false false false i t l p q r v w x = refl
fu_kind_by e f h u s k i t l p q r v w x = absurd cc

fu_by : (e f h u s k i t l : Bool) → e ≡ false → f ≡ true → h ≡ false → u ≡ false → s ≡ false → k ≡ true
    → fault_by e f h u s k i t l ≡ cond t (cond l (Some Large) None) (Some Fragment)
fu_by false true false false false true i true l p q r v w x = refl
fu_by false true false false false true i false l p q r v w x = refl
fu_by e f h u s k i t l p q r v w x = absurd cc

stap_by : (e f h u s k i t l : Bool) → e ≡ false → f ≡ false → u ≡ false → s ≡ true → fault_by e f h u s k i t l ≡ cond i (cond l (Some Large) None) (Some Size)
stap_by false false h false true k true t l p q r v = refl
stap_by false false h false true k false t l p q r v = refl
stap_by e f h u s k i t l p q r v = absurd cc

chosen_true : {X : Type 0} (b : Bool) (x y : X) → b ≡ true → cond b x y ≡ x
chosen_true true x y e = refl
chosen_true false x y e = absurd cc

chosen_false : {X : Type 0} (b : Bool) (x y : X) → b ≡ false → cond b x y ≡ y
chosen_false true x y e = absurd cc
chosen_false false x y e = refl

-- ---- what begins nothing

differ : true ≡ false → ⊥
differ e = cc

no_fu : (b : List ℕ) → is_fu_a b ≡ false → begins b ≡ false
no_fu b e = refuted (begins b) (λ t. differ (sym (start_parts b t).fu ∙ e))

too_short : (b : List ℕ) → length b < 2 → begins b ≡ false
too_short b lt = refuted (begins b) (λ t. let two : 2 ≤ length b = (start_parts b t).two in absurd (omega arith))

other_kind : (b : List ℕ) → is_unit_type (fu_type b) ≡ false → begins b ≡ false
other_kind b e = refuted (begins b) (λ t. differ (sym (start_parts b t).kind ∙ e))

no_start : (b : List ℕ) → only_starts b ≡ false → begins b ≡ false
no_start b e = refuted (begins b) (λ t. let parts = start_parts b t in differ (sym (both_hold (has_start b) (not (has_end b)) parts.start parts.end) ∙ e))

too_large : (b : List ℕ) → is_over (length b - 1) ≡ true → begins b ≡ false
too_large b e = refuted (begins b) (λ t. differ (sym e ∙ not_holds (is_over (length b - 1)) (start_parts b t).fits))

-- ---- the types

is_type_not : (b : List ℕ) (t : ℕ) → (nal_type b ≡ t → ⊥) → (nal_type b == t) ≡ false
is_type_not b t h = eq_fails (nal_type b) t h

above : (t : ℕ) → 24 ≤ t → is_unit_type t ≡ false
above t le = right_fails (nat_lt 0 t) (nat_lt t 24) (lt_fails t 24 le)

filled : (b : List ℕ) → 1 ≤ length b → (length b == 0) ≡ false
filled b le = eq_fails (length b) 0 (λ e. absurd (omega arith))

large_single : (s f : Bool) (x y : ℕ) → s ≡ false → f ≡ false → (not s && is_over (cond f x y)) ≡ is_over y
large_single false false x y p q = refl
large_single s f x y p q = absurd cc

large_fu : (s f : Bool) (x y : ℕ) → s ≡ false → f ≡ true → (not s && is_over (cond f x y)) ≡ is_over x
large_fu false true x y p q = refl
large_fu s f x y p q = absurd cc

large_stap : (s : Bool) (n : ℕ) → s ≡ true → (not s && is_over n) ≡ false
large_stap true n p = refl
large_stap false n p = absurd cc

-- ---- a payload that is no fragment

pub empty_is : (b : List ℕ) → (length b == 0) ≡ true → IsShape b (Err Empty)
empty_is b e =
    let none : length b ≡ 0 = equal (length b) 0 e in record { fault = empty_by (length b == 0) (is_fu_a b) (nat_lt (length b) 2) (is_unit_type (nal_type b)) (is_stap_a b) (is_unit_type (fu_type b)) (is_filled (drop 1 b)) (only_starts b) (is_large b) e; start = too_short b (omega arith) }

pub kind_is : (b : List ℕ) → 1 ≤ length b → (nal_type b ≡ 28 → ⊥) → (nal_type b ≡ 24 → ⊥) → is_unit_type (nal_type b) ≡ false → IsShape b (Err Kind)
kind_is b le fu stap unit =
    let f = is_type_not b 28 fu in record { fault = kind_by (length b == 0) (is_fu_a b) (nat_lt (length b) 2) (is_unit_type (nal_type b)) (is_stap_a b) (is_unit_type (fu_type b)) (is_filled (drop 1 b)) (only_starts b) (is_large b) (filled b le) f unit (is_type_not b 24 stap); start = no_fu b f }

single_fault : (b : List ℕ) (l : Bool) → 1 ≤ length b → (nal_type b ≡ 28 → ⊥) → (nal_type b ≡ 24 → ⊥) → is_unit_type (nal_type b) ≡ true → is_over (length b) ≡ l
    → fault_of H264 b ≡ cond l (Some Large) None
single_fault b l le fu stap unit over =
    let f = is_type_not b 28 fu in let s = is_type_not b 24 stap in
    single_by (length b == 0) (is_fu_a b) (nat_lt (length b) 2) (is_unit_type (nal_type b)) (is_stap_a b) (is_unit_type (fu_type b)) (is_filled (drop 1 b)) (only_starts b) (is_large b) (filled b le) f unit s
    ∙ ap (λ (x : Bool). cond x (Some Large) None) (large_single (is_stap_a b) (is_fu_a b) (length b - 1) (length b) s f ∙ over)

pub single_large : (b : List ℕ) → 1 ≤ length b → (nal_type b ≡ 28 → ⊥) → (nal_type b ≡ 24 → ⊥) → is_unit_type (nal_type b) ≡ true → 1048576 < length b → IsShape b (Err Large)
single_large b le fu stap unit lt =
    record { fault = single_fault b true le fu stap unit (lt_holds 1048576 (length b) lt); start = no_fu b (is_type_not b 28 fu) }

pub single_is : (b : List ℕ) → 1 ≤ length b → (nal_type b ≡ 28 → ⊥) → (nal_type b ≡ 24 → ⊥) → is_unit_type (nal_type b) ≡ true → length b ≤ 1048576 → IsShape b (Ok Single)
single_is b le fu stap unit fits =
    let f = is_type_not b 28 fu in
    record {
      fault = single_fault b false le fu stap unit (lt_fails 1048576 (length b) fits);
      units = chosen_false (is_fu_a b) [] (cond (is_stap_a b) (units_of b) (b ∷ [])) f ∙ chosen_false (is_stap_a b) (units_of b) (b ∷ []) (is_type_not b 24 stap);
      start = no_fu b f;
    }

-- ---- a fragment

fu_yes : (b : List ℕ) → nal_type b ≡ 28 → is_fu_a b ≡ true
fu_yes b e = eq_holds (nal_type b) 28 e

fu_no_stap : (b : List ℕ) → nal_type b ≡ 28 → is_stap_a b ≡ false
fu_no_stap b e = eq_fails (nal_type b) 24 (λ h. absurd (omega arith))

fu_no_unit : (b : List ℕ) → nal_type b ≡ 28 → is_unit_type (nal_type b) ≡ false
fu_no_unit b e = above (nal_type b) (omega arith)

pub fragment_short : (b : List ℕ) → 1 ≤ length b → nal_type b ≡ 28 → length b < 2 → IsShape b (Err Fragment)
fragment_short b le e lt = record { fault = short_by (length b == 0) (is_fu_a b) (nat_lt (length b) 2) (is_unit_type (nal_type b)) (is_stap_a b) (is_unit_type (fu_type b)) (is_filled (drop 1 b)) (only_starts b) (is_large b) (filled b le) (fu_yes b e) (lt_holds (length b) 2 lt); start = too_short b lt }

pub fragment_kind : (b : List ℕ) → 2 ≤ length b → nal_type b ≡ 28 → is_unit_type (fu_type b) ≡ false → IsShape b (Err Kind)
fragment_kind b le e k =
    record { fault = fu_kind_by (length b == 0) (is_fu_a b) (nat_lt (length b) 2) (is_unit_type (nal_type b)) (is_stap_a b) (is_unit_type (fu_type b)) (is_filled (drop 1 b)) (only_starts b) (is_large b) (filled b (omega arith)) (fu_yes b e) (lt_fails (length b) 2 le) (fu_no_unit b e) (fu_no_stap b e) k; start = other_kind b k }

fragment_fault : (b : List ℕ) (t l : Bool) → 2 ≤ length b → nal_type b ≡ 28 → is_unit_type (fu_type b) ≡ true → only_starts b ≡ t → is_over (length b - 1) ≡ l
    → fault_of H264 b ≡ cond t (cond l (Some Large) None) (Some Fragment)
fragment_fault b t l le e k starts over =
    let f = fu_yes b e in let s = fu_no_stap b e in
    fu_by (length b == 0) (is_fu_a b) (nat_lt (length b) 2) (is_unit_type (nal_type b)) (is_stap_a b) (is_unit_type (fu_type b)) (is_filled (drop 1 b)) (only_starts b) (is_large b) (filled b (omega arith)) f (lt_fails (length b) 2 le) (fu_no_unit b e) s k
    ∙ ap (λ (x : Bool). cond x (cond (is_large b) (Some Large) None) (Some Fragment)) starts
    ∙ ap (λ (x : Bool). cond t (cond x (Some Large) None) (Some Fragment)) (large_fu (is_stap_a b) (is_fu_a b) (length b - 1) (length b) s f ∙ over)

pub fragment_stray : (b : List ℕ) → 2 ≤ length b → nal_type b ≡ 28 → is_unit_type (fu_type b) ≡ true → only_starts b ≡ false → IsShape b (Err Fragment)
fragment_stray b le e k starts = record { fault = fragment_fault b false (is_over (length b - 1)) le e k starts refl; start = no_start b starts }

pub fragment_large : (b : List ℕ) → 2 ≤ length b → nal_type b ≡ 28 → is_unit_type (fu_type b) ≡ true → only_starts b ≡ true → 1048576 < length b - 1 → IsShape b (Err Large)
fragment_large b le e k starts lt =
    let over = lt_holds 1048576 (length b - 1) lt in record { fault = fragment_fault b true true le e k starts over; start = too_large b over }

pub fragment_is : (b : List ℕ) → 2 ≤ length b → nal_type b ≡ 28 → is_unit_type (fu_type b) ≡ true → only_starts b ≡ true → length b - 1 ≤ 1048576 → IsShape b (Ok Start)
fragment_is b le e k starts fits =
    let over = lt_fails 1048576 (length b - 1) fits in
    let f = fu_yes b e in (
      record {
        fault = fragment_fault b true false le e k starts over;
        units = chosen_true (is_fu_a b) [] (cond (is_stap_a b) (units_of b) (b ∷ [])) f;
        start = both_hold (is_fu_a b && nat_le 2 (length b) && is_unit_type (fu_type b) && only_starts b) (not (is_over (length b - 1)))
            (both_hold (is_fu_a b && nat_le 2 (length b) && is_unit_type (fu_type b)) (only_starts b) (both_hold (is_fu_a b && nat_le 2 (length b)) (is_unit_type (fu_type b)) (both_hold (is_fu_a b) (nat_le 2 (length b)) f (le_holds 2 (length b) le)) k) starts)
            (not_fails (is_over (length b - 1)) over);
      },
      le,
    )

-- ---- an aggregate

stap_yes : (b : List ℕ) → nal_type b ≡ 24 → is_stap_a b ≡ true
stap_yes b e = eq_holds (nal_type b) 24 e

stap_no_fu : (b : List ℕ) → nal_type b ≡ 24 → is_fu_a b ≡ false
stap_no_fu b e = eq_fails (nal_type b) 28 (λ h. absurd (omega arith))

stap_fault : (b : List ℕ) (i : Bool) → 1 ≤ length b → nal_type b ≡ 24 → is_filled (drop 1 b) ≡ i → fault_of H264 b ≡ cond i None (Some Size)
stap_fault b i le e fill =
    let s = stap_yes b e in
    stap_by (length b == 0) (is_fu_a b) (nat_lt (length b) 2) (is_unit_type (nal_type b)) (is_stap_a b) (is_unit_type (fu_type b)) (is_filled (drop 1 b)) (only_starts b) (is_large b) (filled b le) (stap_no_fu b e) (above (nal_type b) (omega arith)) s
    ∙ ap (λ (x : Bool). cond x (cond (is_large b) (Some Large) None) (Some Size)) fill
    ∙ ap (λ (x : Bool). cond i (cond x (Some Large) None) (Some Size)) (large_stap (is_stap_a b) (cond (is_fu_a b) (length b - 1) (length b)) s)

pub aggregate_size : (b : List ℕ) → 1 ≤ length b → nal_type b ≡ 24 → is_filled (drop 1 b) ≡ false → IsShape b (Err Size)
aggregate_size b le e fill = record { fault = stap_fault b false le e fill; start = no_fu b (stap_no_fu b e) }

pub aggregate_is : (b : List ℕ) → 1 ≤ length b → nal_type b ≡ 24 → is_filled (drop 1 b) ≡ true → IsShape b (Ok Aggregate)
aggregate_is b le e fill =
    let f = stap_no_fu b e in (
      record {
        fault = stap_fault b true le e fill;
        units = chosen_false (is_fu_a b) [] (cond (is_stap_a b) (units_of b) (b ∷ [])) f ∙ chosen_true (is_stap_a b) (units_of b) (b ∷ []) (stap_yes b e);
        start = no_fu b f;
      },
      (both (not (length (drop 1 b) == 0)) (is_some (units_in (drop 1 b))) fill).1,
      le,
    )

-- ---- what a packet tells by itself

pub alone_holds : (p : Packet) (units : List (List ℕ)) (start : Bool) → Holds p.payload units start → alone H264 p ≡ map (single_unit p) units
alone_holds p units start h =
    ap (λ (o : Option Cause). alone_by p o (h264_units p.payload)) h.fault ∙ ap (λ (us : List (List ℕ)). map (single_unit p) us) h.units

pub alone_fails : (p : Packet) (cause : Cause) → Fails p.payload cause → alone H264 p ≡ Broken p.number cause ∷ []
alone_fails p cause h = ap (λ (o : Option Cause). alone_by p o (h264_units p.payload)) h.fault
