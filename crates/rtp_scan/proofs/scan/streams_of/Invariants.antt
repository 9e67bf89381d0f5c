use Rattle.std.proofs.Common.{◌≡◌, map, take}
use Rattle.std.specs.List.{filter}
use Rattle.rtp_scan.specs.Streams.{is_stream}
use Rattle.rtp_scan.proofs.scan.streams_of.Given as goal

abbrev pub invariant-loop-i : goal.invariant-loop-i
invariant-loop-i l = l.streams.items ≡ filter is_stream (take l.i (map (λ e. e.1) l.pairs.entries))
