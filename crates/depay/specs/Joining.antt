-- What a value keeps, and that it stands for the list of what it was given.
use Rattle.std.specs.Prelude.{◌≡◌, ℕ, ◌+◌, ◌==◌, ◌&&◌, if◌then◌else◌, Bool, true, false, List, [], ◌∷◌, ◌++◌, drop, slice_index, Option, Some, None, Result, Ok, Err, IsSome}
use Rattle.depay.specs.declared.outcome.Cause.{Cause}
use Rattle.depay.specs.declared.outcome.Cause.TheVariants.{Large}
use Rattle.depay.specs.declared.outcome.Format.{Format}
use Rattle.depay.specs.declared.outcome.Format.TheVariants.{Pcmu, H264}
use Rattle.depay.specs.declared.outcome.Outcome.{Outcome}
use Rattle.depay.specs.declared.outcome.Outcome.TheVariants.{Unit as Whole, Broken}
use Rattle.depay.specs.declared.fragment.OpenUnit.{OpenUnit}
use Rattle.depay.specs.Payload.{is_over, begins, has_end, fu_type, unit_header, is_later_fragment}
use Rattle.depay.specs.Fragments.{Packet, Call, oldest, fragment_bytes, joined, open_in}
use Rattle.depay.specs.Outcomes.{left_open, alone}
use Rattle.std.specs.Prelude.{length}

-- what a value keeps: its format, the unit that is open, and that unit's bytes so far
pub record Joining : Type 0 where
  pub format : Format
  pub unit : Option OpenUnit
  pub bytes : List ℕ

abbrev pub joining : Format → Option OpenUnit → List ℕ → Joining
joining format unit bytes = record { format = format; unit = unit; bytes = bytes }

abbrev pub closed : Joining → Joining
closed d = joining d.format None []

-- ---- what it stands for

-- what is kept of the packets of an open unit
abbrev pub summary_of : Packet → List Packet → OpenUnit
summary_of p earlier = record {
  first = (oldest p earlier).number;
  last = p.number;
  rtp = p.rtp;
  pts = (oldest p earlier).pts;
  indicator = slice_index p.payload 0;
  kind = fu_type p.payload;
}

abbrev pub summary : List Packet → Option OpenUnit
summary [] = None
summary (p ∷ earlier) = Some (summary_of p earlier)

abbrev pub bytes_so_far : List Packet → List ℕ
bytes_so_far [] = []
bytes_so_far (p ∷ earlier) = joined p earlier

-- The value has this format and was given these calls, the latest first.
pub record StandsFor (d : Joining) (format : Format) (calls : List Call) : Type 0 where
  pub format_is : d.format ≡ format
  pub unit_is : d.unit ≡ summary (open_in format calls)
  pub bytes_are : d.bytes ≡ bytes_so_far (open_in format calls)

-- ---- a packet that goes on with the open unit

abbrev pub unit_goes_on : OpenUnit → Packet → Bool
unit_goes_on u p = p.number == u.last + 1 && p.rtp == u.rtp && is_later_fragment p.payload u.indicator u.kind

abbrev pub goes_on_with : Option OpenUnit → Packet → Bool
goes_on_with None p = false
goes_on_with (Some u) p = unit_goes_on u p

abbrev pub unit_next : OpenUnit → Packet → OpenUnit
unit_next u p = record u { last = p.number }

abbrev pub bytes_next : Joining → Packet → List ℕ
bytes_next d p = d.bytes ++ drop 2 p.payload

abbrev pub on_outcomes : Joining → OpenUnit → Packet → List Outcome
on_outcomes d u p =
    if is_over (length (bytes_next d p)) then Broken p.number Large ∷ []
    else if has_end p.payload then Whole u.first p.number u.pts (bytes_next d p) ∷ []
    else []

abbrev pub on_next : Joining → OpenUnit → Packet → Joining
on_next d u p =
    if is_over (length (bytes_next d p)) then closed d
    else if has_end p.payload then closed d
    else joining d.format (Some (unit_next u p)) (bytes_next d p)

-- ---- any other packet

abbrev pub first_of : Option OpenUnit → Option ℕ
first_of None = None
first_of (Some u) = Some u.first

abbrev pub anew_outcomes : Joining → Packet → List Outcome
anew_outcomes d p = left_open (first_of d.unit) ++ alone d.format p

abbrev pub starts : Format → Packet → Bool
starts Pcmu p = false
starts H264 p = begins p.payload

abbrev pub opened_by : Packet → OpenUnit
opened_by p = record {
  first = p.number;
  last = p.number;
  rtp = p.rtp;
  pts = p.pts;
  indicator = slice_index p.payload 0;
  kind = fu_type p.payload;
}

abbrev pub anew_next : Joining → Packet → Joining
anew_next d p =
    if starts d.format p then joining d.format (Some (opened_by p)) (unit_header p.payload ∷ drop 2 p.payload)
    else closed d
