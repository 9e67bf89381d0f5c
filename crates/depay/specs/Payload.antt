-- A payload of H.264 (RFC 6184, section 5): the NAL unit type of its first byte, and of a fragment (FU-A, section 5.8) the FU header.
use Rattle.std.specs.Prelude.{ℕ, ◌+◌, ◌-◌, ◌*◌, ◌/◌, ◌%◌, ◌==◌, ◌&&◌, ◌||◌, not, nat_lt, nat_le, if◌then◌else◌, Bool, true, false, List, [], ◌∷◌, length, drop, slice_index, Option, Some, None}
use Rattle.depay.specs.declared.outcome.Cause.{Cause}
use Rattle.depay.specs.declared.outcome.Cause.TheVariants.{Empty, Kind, Size, Fragment, Large}
use Rattle.depay.specs.declared.outcome.Format.{Format}
use Rattle.depay.specs.declared.outcome.Format.TheVariants.{Pcmu, H264}
use Rattle.depay.specs.Aggregate.{is_filled, units_of}

-- So many bytes are more than a unit may have.
abbrev pub is_over : ℕ → Bool
is_over n = nat_lt 1048576 n

-- the NAL unit type: the low five bits of the first byte
abbrev pub nal_type : List ℕ → ℕ
nal_type b = slice_index b 0 % 32

-- The type is one of a NAL unit that H.264 itself defines or leaves open; the others are packets of RFC 6184.
abbrev pub is_unit_type : ℕ → Bool
is_unit_type t = nat_lt 0 t && nat_lt t 24

abbrev pub is_stap_a : List ℕ → Bool
is_stap_a b = nal_type b == 24

abbrev pub is_fu_a : List ℕ → Bool
is_fu_a b = nal_type b == 28

-- ---- the FU header, the second byte: the start bit, the end bit, and the type of the fragmented unit

abbrev pub has_start : List ℕ → Bool
has_start b = slice_index b 1 / 128 == 1

abbrev pub has_end : List ℕ → Bool
has_end b = slice_index b 1 / 64 % 2 == 1

abbrev pub fu_type : List ℕ → ℕ
fu_type b = slice_index b 1 % 32

-- the first byte of the fragmented unit: the high three bits of the first byte, and the type
abbrev pub unit_header : List ℕ → ℕ
unit_header b = slice_index b 0 / 32 * 32 + fu_type b

-- The start bit without the end bit.
abbrev pub only_starts : List ℕ → Bool
only_starts b = has_start b && not (has_end b)

-- A fragment of this first byte and type without the start bit.
abbrev pub is_later_fragment : List ℕ → ℕ → ℕ → Bool
is_later_fragment b first type =
    nat_le 2 (length b) && slice_index b 0 == first && fu_type b == type && not (has_start b)

-- ---- what a payload fails that goes on with no open unit

-- The payload is longer than a unit may be. The first byte of a fragment belongs to no unit, and a unit of an aggregate has a size of 16 bits.
abbrev pub is_large : List ℕ → Bool
is_large b = not (is_stap_a b) && is_over (if is_fu_a b then length b - 1 else length b)

-- the tests in their order
abbrev pub h264_tests : List ℕ → List (Bool × Cause)
h264_tests b =
    (length b == 0, Empty)
    ∷ (is_fu_a b && nat_lt (length b) 2, Fragment)
    ∷ (not (is_unit_type (nal_type b) || is_stap_a b || (is_fu_a b && is_unit_type (fu_type b))), Kind)
    ∷ (is_stap_a b && not (is_filled (drop 1 b)), Size)
    ∷ (is_fu_a b && not (only_starts b), Fragment)
    ∷ (is_large b, Large)
    ∷ []

abbrev pub pcmu_tests : List ℕ → List (Bool × Cause)
pcmu_tests b = (length b == 0, Empty) ∷ (is_over (length b), Large) ∷ []

abbrev pub tests_of : Format → List ℕ → List (Bool × Cause)
tests_of Pcmu b = pcmu_tests b
tests_of H264 b = h264_tests b

-- the cause of the first test that fits
abbrev pub first_fitting : List (Bool × Cause) → Option Cause
first_fitting [] = None
first_fitting (t ∷ tests) = if t.0 then Some t.1 else first_fitting tests

abbrev pub fault_of : Format → List ℕ → Option Cause
fault_of format b = first_fitting (tests_of format b)

-- ---- the units that a payload without a fault holds by itself

abbrev pub h264_units : List ℕ → List (List ℕ)
h264_units b = if is_fu_a b then [] else if is_stap_a b then units_of b else b ∷ []

abbrev pub units_by : Format → List ℕ → List (List ℕ)
units_by Pcmu b = b ∷ []
units_by H264 b = h264_units b

-- The payload begins a fragmented unit: the start bit without the end bit, of a type of a NAL unit, and not too large.
abbrev pub begins : List ℕ → Bool
begins b =
    is_fu_a b && nat_le 2 (length b) && is_unit_type (fu_type b) && only_starts b && not (is_over (length b - 1))
