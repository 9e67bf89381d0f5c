-- The records of a capture file, by the bytes of the whole file.
use Rattle.std.specs.Prelude.{ℕ, zero, suc, ◌+◌, ◌*◌, ◌%◌, List, [], ◌∷◌, ◌++◌, length, take, drop, Option, Some, None, Result, Ok, Err, nat_lt, nat_le, nat_eq, ◌==◌, ◌&&◌, ◌||◌, if◌then◌else◌, Bool}
use Rattle.std.specs.List.{starts_with}
use Rattle.pcap_file.specs.Numbers.{number_at}
use Rattle.pcap_file.specs.declared.order.Order.{Order}
use Rattle.pcap_file.specs.declared.order.Order.TheVariants.{Little, Big}
use Rattle.pcap_file.specs.declared.header.Format.{Format}
use Rattle.pcap_file.specs.declared.fault.CaptureFault.{CaptureFault}
use Rattle.pcap_file.specs.declared.fault.CaptureFault.TheVariants.{CutHeader, Pcapng, Magic, Version, Link, TooMany, CutRecord, Length, Fraction}

-- a record: the link type of its frame, where it begins in the file, its stamp in nanoseconds, its frame's length on the network, and the bytes of the frame that it includes
pub record Record : Type 0 where
  pub link : ℕ
  pub offset : ℕ
  pub stamp : ℕ
  pub original : ℕ
  pub bytes : List ℕ

-- the records in order, and the fault that ends them, if one does
pub record Capture : Type 0 where
  pub records : List Record
  pub fault : Option CaptureFault

-- ---- the file header, 24 bytes: magic number, two halves of the version, zone, precision, snap length, link type

-- The magic number, which tells the order of all numbers: that of stamps in microseconds, or that of stamps in nanoseconds.
abbrev pub is_micro : Order → List ℕ → Bool
is_micro order bytes = number_at order 4 0 bytes == 0xa1b2c3d4

abbrev pub is_nano : Order → List ℕ → Bool
is_nano order bytes = number_at order 4 0 bytes == 0xa1b23c4d

abbrev pub order_of : List ℕ → Option Order
order_of bytes =
    if is_micro Little bytes || is_nano Little bytes then Some Little
    else if is_micro Big bytes || is_nano Big bytes then Some Big
    else None

-- the version is 2.4
abbrev pub is_version : Order → List ℕ → Bool
is_version order bytes = number_at order 2 4 bytes == 2 && number_at order 2 6 bytes == 4

-- the link types whose frames are understood
abbrev pub is_link : ℕ → Bool
is_link link = link == 0 || link == 1 || link == 101 || link == 113 || link == 228 || link == 229 || link == 276

-- Only the low 16 bits of the link field are the link type.
abbrev pub link_at : Order → List ℕ → ℕ
link_at order bytes = number_at order 4 20 bytes % 65536

abbrev pub format_in : Option Order → List ℕ → Result Format CaptureFault
format_in None bytes = Err Magic
format_in (Some order) bytes =
    if is_version order bytes
    then (if is_link (link_at order bytes)
    then Ok (record { order = order; nanoseconds = is_nano order bytes; link = link_at order bytes })
    else Err Link)
    else Err Version

-- what the header says, or its first fault
unfoldable pub format_of : List ℕ → Result Format CaptureFault
format_of bytes = if starts_with nat_eq bytes (0x0a ∷ 0x0d ∷ 0x0d ∷ 0x0a ∷ []) then Err Pcapng else format_in (order_of bytes) bytes

-- ---- a record: seconds, fraction, included length and original length, of four bytes each, and the included bytes

-- a second, in units of a stamp's fraction, and such a unit in nanoseconds
abbrev pub fraction_limit : Format → ℕ
fraction_limit format = if format.nanoseconds then 1000000000 else 1000000

abbrev pub fraction_unit : Format → ℕ
fraction_unit format = if format.nanoseconds then 1 else 1000

abbrev pub record_of : Format → ℕ → List ℕ → Record
record_of format offset bytes = record {
  link = format.link;
  offset = offset;
  stamp = number_at format.order 4 0 bytes * 1000000000 + number_at format.order 4 4 bytes * fraction_unit format;
  original = number_at format.order 4 12 bytes;
  bytes = take (number_at format.order 4 8 bytes) (drop 16 bytes);
}

-- what stands at a record's border
pub data Head : Type 0 where
  AtEnd : Head
  AtFault : CaptureFault → Head
  AtRecord : Record → Head

-- the first test that fails answers, where this many records came before
unfoldable pub head : Format → ℕ → ℕ → List ℕ → Head
head format count offset bytes =
    if length bytes == 0 then AtEnd
    else if nat_le 100000000 count then AtFault (TooMany offset)
    else if nat_lt (length bytes) 16 then AtFault (CutRecord offset)
    else if nat_lt 262144 (number_at format.order 4 8 bytes) then AtFault (Length offset)
    else if nat_le (fraction_limit format) (number_at format.order 4 4 bytes) then AtFault (Fraction offset)
    else if nat_lt (length bytes) (16 + number_at format.order 4 8 bytes) then AtFault (CutRecord offset)
    else AtRecord (record_of format offset bytes)

abbrev pub with_front : List Record → Capture → Capture
with_front front capture = record { records = front ++ capture.records; fault = capture.fault }

abbrev pub empty : Option CaptureFault → Capture
empty fault = record { records = []; fault = fault }

-- what a border leads to, where behind gives the records behind the next one
abbrev pub step_from : (ℕ → ℕ → List ℕ → Capture) → ℕ → ℕ → List ℕ → Head → Capture
step_from behind count offset bytes AtEnd = empty None
step_from behind count offset bytes (AtFault fault) = empty (Some fault)
step_from behind count offset bytes (AtRecord r) = with_front (r ∷ []) (behind (count + 1) (offset + (16 + length r.bytes)) (drop (16 + length r.bytes) bytes))

-- the records from this offset on; a record takes 16 bytes at least, so as many steps as bytes serve
unfoldable pub walk : Format → ℕ → ℕ → ℕ → List ℕ → Capture
walk format zero count offset bytes = empty None
walk format (suc steps) count offset bytes = step_from (walk format steps) count offset bytes (head format count offset bytes)

unfoldable pub records_from : Format → ℕ → ℕ → List ℕ → Capture
records_from format count offset bytes = walk format (length bytes + 1) count offset bytes

-- ---- the whole capture

abbrev pub behind_header : Result Format CaptureFault → List ℕ → Capture
behind_header (Err fault) bytes = empty (Some fault)
behind_header (Ok format) bytes = records_from format 0 24 bytes

unfoldable pub capture_of : List ℕ → Capture
capture_of bytes =
    if nat_lt (length bytes) 24 then empty (Some CutHeader)
    else behind_header (format_of (take 24 bytes)) (drop 24 bytes)
