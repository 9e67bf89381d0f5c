-- The records of a capture file of either form, by the bytes of the whole file.
use Rattle.std.specs.Prelude.{ℕ, ◌+◌, List, [], ◌∷◌, ◌++◌, length, take, max}
use Rattle.std.specs.Prelude.{Bool, nat_le, nat_eq, ◌&&◌, if◌then◌else◌, Option, option_map}
use Rattle.std.specs.List.{starts_with}
use Rattle.pcap_file.specs.Capture as pcap
use Rattle.pcap_file.specs.Capture.{Record}
use Rattle.pcapng_file.specs.Blocks.{NgCapture, ng_capture}
use Rattle.pcapng_file.specs.Ends.{record_end}
use Rattle.capture_file.specs.declared.fault.FileFault.{FileFault}
use Rattle.capture_file.specs.Faults.{fault_of_pcap, fault_of_ng}

-- the records in order, and the fault that ends them, if one does
pub record Capture : Type 0 where
  pub records : List Record
  pub fault : Option FileFault

abbrev pub with_front : List Record → Capture → Capture
with_front front capture = record { records = front ++ capture.records; fault = capture.fault }

abbrev pub empty : Option FileFault → Capture
empty fault = record { records = []; fault = fault }

-- ---- the two forms

-- A pcapng file has at least 24 bytes, and the first four are the type of a section header.
abbrev pub is_ng : List ℕ → Bool
is_ng bytes =
    nat_le 24 (length bytes) && starts_with nat_eq bytes (0x0a ∷ 0x0d ∷ 0x0d ∷ 0x0a ∷ [])

abbrev pub capture_of_pcap : pcap.Capture → Capture
capture_of_pcap capture =
    record { records = capture.records; fault = option_map fault_of_pcap capture.fault }

abbrev pub capture_of_ng : NgCapture → Capture
capture_of_ng capture =
    record { records = capture.records; fault = option_map fault_of_ng capture.fault }

-- what the bytes of a file are: every file that isn't a pcapng file is read as a pcap capture
unfoldable pub capture_of : List ℕ → Capture
capture_of bytes =
    if is_ng bytes then capture_of_ng (ng_capture bytes)
    else capture_of_pcap (pcap.capture_of bytes)

-- ---- where records end in the file

-- A record of a pcapng file ends where its block ends, and one of a pcap capture behind 16 bytes
-- and its frame.
unfoldable pub end_in : List ℕ → Record → ℕ
end_in bytes r = if is_ng bytes then record_end bytes r else r.offset + (16 + length r.bytes)

-- where the furthest of these records ends, and 0 where there is none
abbrev pub furthest : List ℕ → List Record → ℕ
furthest bytes [] = 0
furthest bytes (r ∷ rs) = max (end_in bytes r) (furthest bytes rs)

-- where the first n records of a file end
unfoldable pub end_of : List ℕ → ℕ → ℕ
end_of bytes n = furthest bytes (take n (capture_of bytes).records)
