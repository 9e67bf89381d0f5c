-- The faults of a pcapng file.
use Rattle.std.specs.Prelude.{ℕ, List, codes, Result, Ok, Err, Option, Some, None, ◌≡◌, ◌<◌}
use Rattle.pcapng_file.specs.declared.pieces.Stop.{Stop}
use Rattle.pcapng_file.specs.declared.pieces.Stop.TheVariants.{Cut, ReadFault as StopRead, OutOfMemory as StopMemory}
use Rattle.pcapng_file.specs.declared.fault.NgFault.{NgFault}
use Rattle.pcapng_file.specs.declared.fault.NgFault.TheVariants.{CutBlock, Order, Block, Version, Link, Options, Resolution, Many, Interface, Length, Time, TooMany, ReadFault, OutOfMemory}

-- the program's word
abbrev pub word_of : NgFault → List ℕ
word_of (CutBlock offset) = codes "cut-block"
word_of (Order offset) = codes "order"
word_of (Block offset) = codes "block"
word_of (Version offset) = codes "version"
word_of (Link offset) = codes "link"
word_of (Options offset) = codes "option"
word_of (Resolution offset) = codes "resolution"
word_of (Many offset) = codes "many"
word_of (Interface offset) = codes "interface"
word_of (Length offset) = codes "length"
word_of (Time offset) = codes "time"
word_of (TooMany offset) = codes "too-many"
word_of ReadFault = codes "read-fault"
word_of OutOfMemory = codes "out-of-memory"

-- the offset of the block
abbrev pub offset_of : NgFault → ℕ
offset_of (CutBlock offset) = offset
offset_of (Order offset) = offset
offset_of (Block offset) = offset
offset_of (Version offset) = offset
offset_of (Link offset) = offset
offset_of (Options offset) = offset
offset_of (Resolution offset) = offset
offset_of (Many offset) = offset
offset_of (Interface offset) = offset
offset_of (Length offset) = offset
offset_of (Time offset) = offset
offset_of (TooMany offset) = offset
offset_of ReadFault = 0
offset_of OutOfMemory = 0

-- one fact for a fault of the bytes, one for a failed read and one for want of memory
abbrev pub OnFault : NgFault → Type 0 → Type 0 → Type 0 → Type 0
OnFault (CutBlock offset) format read memory = format
OnFault (Order offset) format read memory = format
OnFault (Block offset) format read memory = format
OnFault (Version offset) format read memory = format
OnFault (Link offset) format read memory = format
OnFault (Options offset) format read memory = format
OnFault (Resolution offset) format read memory = format
OnFault (Many offset) format read memory = format
OnFault (Interface offset) format read memory = format
OnFault (Length offset) format read memory = format
OnFault (Time offset) format read memory = format
OnFault (TooMany offset) format read memory = format
OnFault ReadFault format read memory = read
OnFault OutOfMemory format read memory = memory

-- the fault is one of the bytes
abbrev pub IsOfBytes : NgFault → Type 0
IsOfBytes fault = OnFault fault (Unit {0}) ⊥ ⊥

-- A read fault comes exactly where the count of faults rose.
abbrev pub HasNgCause : {A : Type 0} → ℕ → ℕ → Result A NgFault → Type 0
HasNgCause before after (Ok x) = after ≡ before
HasNgCause before after (Err fault) = OnFault fault (after ≡ before) (before < after) (after ≡ before)

-- the fault that is kept after a call: the one that it answered, if it answered one
abbrev pub fault_of : {A : Type 0} → Result A NgFault → Option NgFault
fault_of (Ok x) = None
fault_of (Err fault) = Some fault

-- the fault of a block at this offset whose bytes did not come
abbrev pub stop_fault : ℕ → Stop → NgFault
stop_fault offset Cut = CutBlock offset
stop_fault offset StopRead = ReadFault
stop_fault offset StopMemory = OutOfMemory
