-- The faults of a capture.
use Rattle.std.specs.Prelude.{ℕ, List, codes, Result, Ok, Err, Option, Some, None, ◌≡◌, ◌<◌}
use Rattle.pcap_file.specs.declared.fault.CaptureFault.{CaptureFault}
use Rattle.pcap_file.specs.declared.fault.CaptureFault.TheVariants.{CutHeader, Pcapng, Magic, Version, Link, TooMany, CutRecord, Length, Fraction, ReadFault, OutOfMemory}

-- the program's word
abbrev pub word_of : CaptureFault → List ℕ
word_of CutHeader = codes "cut-header"
word_of Pcapng = codes "pcapng"
word_of Magic = codes "magic"
word_of Version = codes "version"
word_of Link = codes "link"
word_of (TooMany offset) = codes "too-many"
word_of (CutRecord offset) = codes "cut-record"
word_of (Length offset) = codes "length"
word_of (Fraction offset) = codes "fraction"
word_of ReadFault = codes "read-fault"
word_of OutOfMemory = codes "out-of-memory"

-- the offset of the record, and 0 for the file header
abbrev pub offset_of : CaptureFault → ℕ
offset_of CutHeader = 0
offset_of Pcapng = 0
offset_of Magic = 0
offset_of Version = 0
offset_of Link = 0
offset_of (TooMany offset) = offset
offset_of (CutRecord offset) = offset
offset_of (Length offset) = offset
offset_of (Fraction offset) = offset
offset_of ReadFault = 0
offset_of OutOfMemory = 0

-- one fact for a fault of the bytes, one for a failed read and one for want of memory
abbrev pub OnFault : CaptureFault → Type 0 → Type 0 → Type 0 → Type 0
OnFault CutHeader format read memory = format
OnFault Pcapng format read memory = format
OnFault Magic format read memory = format
OnFault Version format read memory = format
OnFault Link format read memory = format
OnFault (TooMany offset) format read memory = format
OnFault (CutRecord offset) format read memory = format
OnFault (Length offset) format read memory = format
OnFault (Fraction offset) format read memory = format
OnFault ReadFault format read memory = read
OnFault OutOfMemory format read memory = memory

-- the fault is one of the bytes
abbrev pub IsOfBytes : CaptureFault → Type 0
IsOfBytes fault = OnFault fault (Unit {0}) ⊥ ⊥

-- A read fault comes exactly where the count of faults rose.
abbrev pub HasCaptureCause : {A : Type 0} → ℕ → ℕ → Result A CaptureFault → Type 0
HasCaptureCause before after (Ok x) = after ≡ before
HasCaptureCause before after (Err fault) = OnFault fault (after ≡ before) (before < after) (after ≡ before)

-- the fault that is kept after a call: the one that it answered, if it answered one
abbrev pub fault_of : {A : Type 0} → Result A CaptureFault → Option CaptureFault
fault_of (Ok x) = None
fault_of (Err fault) = Some fault
