use Rattle.std.proofs.Common.{◌≡◌, ◌++◌, take, string_bytes}
use Rattle.std.specs.List.{flat_map}
use Rattle.rtp_scan.specs.Report.{unplaced_text}
use Rattle.rtp_scan.proofs.report.push_unplaced.Given as goal

abbrev pub invariant-loop-stream : goal.invariant-loop-stream
invariant-loop-stream l =
    string_bytes l.text ≡ string_bytes l.initial.text ++ flat_map (unplaced_text l.script)
    (take l.stream-index l.streams)
