-- Taking the records of the capture one by one.
use Rattle.std.specs.Prelude.{◌≡◌, ◌<◌, ◌^◌, List, [], ◌∷◌, Option, Some, None}
use Rattle.pcap_file.specs.Capture.{Record}
use Rattle.pcap_file.specs.Reading.{record_view}
use Rattle.pcap_file.specs.declared.record.PcapRecord.{PcapRecord}

-- The first of the records that were left was taken, or none was left.
abbrev pub TakesNext : Option PcapRecord → List Record → List Record → Type 0
TakesNext None old new = (old ≡ []) × (new ≡ [])
TakesNext (Some r) old new = (old ≡ record_view 101 r ∷ new) × (r.stamp < 2 ^ 61)
