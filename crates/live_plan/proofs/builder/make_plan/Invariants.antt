use Rattle.std.proofs.Common.{◌≡◌, map, take}
use Rattle.pcap_file.specs.Reading.{record_view}
use Rattle.live_plan.specs.Taken.{HasTaken, records_of}
use Rattle.live_plan.proofs.builder.make_plan.Given as goal

abbrev pub invariant-loop-captured : goal.invariant-loop-captured
invariant-loop-captured l = record {
  taken : HasTaken l.script (map (record_view l.link) (take l.captured-index l.records)) l.builder;
  count : records_of l.builder ≡ l.captured-index;
}
