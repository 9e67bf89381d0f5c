-- Where the reading of a capture file stands.
use Rattle.std.specs.Prelude.{ℕ, ◌++◌, List, Option, option_map}
use Rattle.pcap_file.specs.Capture.{records_from}
use Rattle.pcapng_file.specs.Blocks.{blocks_from}
use Rattle.capture_file.specs.declared.fault.FileFault.{FileFault}
use Rattle.capture_file.specs.declared.file.CaptureFile.{CaptureFile}
use Rattle.capture_file.specs.declared.file.CaptureFile.TheVariants.{Pcap, Ng}
use Rattle.capture_file.specs.Faults.{fault_of_pcap, fault_of_ng}
use Rattle.capture_file.specs.Capture.{Capture, capture_of_pcap, capture_of_ng}

-- the records so far
abbrev pub count_of : CaptureFile → ℕ
count_of (Pcap place) = place.count
count_of (Ng place) = place.mark.records

-- the fault that was met, if one was
abbrev pub kept_fault : CaptureFile → Option FileFault
kept_fault (Pcap place) = option_map fault_of_pcap place.fault
kept_fault (Ng place) = option_map fault_of_ng place.fault

-- what bytes that come next are
abbrev pub rest_of : CaptureFile → List ℕ → Capture
rest_of (Pcap place) bytes =
    capture_of_pcap (records_from place.format place.count place.offset bytes)
rest_of (Ng place) bytes = capture_of_ng (blocks_from place.mark (place.head ++ bytes))
