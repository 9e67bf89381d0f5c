-- The faults of a capture file.
use Rattle.std.specs.Prelude.{◌≡◌, ◌<◌, ℕ, List, codes, Option, Some, None, Result, Ok, Err}
use Rattle.pcap_file.specs.declared.fault.CaptureFault.{CaptureFault}
use Rattle.pcap_file.specs.declared.fault.CaptureFault.TheVariants as pcap
use Rattle.pcap_file.specs.Faults as pcap_faults
use Rattle.pcapng_file.specs.declared.fault.NgFault.{NgFault}
use Rattle.pcapng_file.specs.declared.fault.NgFault.TheVariants as ng
use Rattle.pcapng_file.specs.Faults as ng_faults
use Rattle.capture_file.specs.declared.fault.FileFault.{FileFault}
use Rattle.capture_file.specs.declared.fault.FileFault.TheVariants.{Pcap, Ng, ReadFault}
use Rattle.capture_file.specs.declared.fault.FileFault.TheVariants.{OutOfMemory}

-- the fault of a file that is read as a pcap capture
abbrev pub fault_of_pcap : CaptureFault → FileFault
fault_of_pcap pcap.ReadFault = ReadFault
fault_of_pcap pcap.OutOfMemory = OutOfMemory
fault_of_pcap fault = Pcap fault

-- and of one that is read as a pcapng file
abbrev pub fault_of_ng : NgFault → FileFault
fault_of_ng ng.ReadFault = ReadFault
fault_of_ng ng.OutOfMemory = OutOfMemory
fault_of_ng fault = Ng fault

-- the program's word
abbrev pub word_of : FileFault → List ℕ
word_of (Pcap fault) = pcap_faults.word_of fault
word_of (Ng fault) = ng_faults.word_of fault
word_of ReadFault = codes "read-fault"
word_of OutOfMemory = codes "out-of-memory"

-- the offset of the record or of the block
abbrev pub offset_of : FileFault → ℕ
offset_of (Pcap fault) = pcap_faults.offset_of fault
offset_of (Ng fault) = ng_faults.offset_of fault
offset_of ReadFault = 0
offset_of OutOfMemory = 0

-- one fact for a fault of the bytes, one for a failed read and one for want of memory
abbrev pub OnFault : FileFault → Type 0 → Type 0 → Type 0 → Type 0
OnFault (Pcap fault) format read memory = format
OnFault (Ng fault) format read memory = format
OnFault ReadFault format read memory = read
OnFault OutOfMemory format read memory = memory

-- A read fault comes exactly where the count of faults rose.
abbrev pub HasFileCause : {A : Type 0} → ℕ → ℕ → Result A FileFault → Type 0
HasFileCause before after (Ok x) = after ≡ before
HasFileCause before after (Err fault) =
    OnFault fault (after ≡ before) (before < after) (after ≡ before)

-- the fault that is kept after a call: the one that it answered, if it answered one
abbrev pub fault_of : {A : Type 0} → Result A FileFault → Option FileFault
fault_of (Ok x) = None
fault_of (Err fault) = Some fault
