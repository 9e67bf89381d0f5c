-- What goes out for the records of a capture.
use Rattle.std.specs.Prelude.{Bool, []}
use Rattle.command_core.specs.Output.{Output}
use Rattle.rtp_scan.specs.Sights.{sights_of}
use Rattle.rtp_scan.specs.Streams.{found_in}
use Rattle.rtp_scan.specs.Report.{report_text}

-- nothing before the end, and then what is told of all records
abbrev pub scan_output : Bool → Output
scan_output script_only = record {
  part = λ records. [];
  whole = λ records. report_text script_only (found_in (sights_of records));
}
