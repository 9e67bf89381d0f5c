use Rattle.std.proofs.Common.{◌≡◌, length}
use Rattle.pcap_file.specs.Datagrams.{untagged as untagged_of}
use Rattle.pcap_file.proofs.frame.untagged.Given as goal

abbrev pub invariant-loop-bytes : goal.invariant-loop-bytes
invariant-loop-bytes l = untagged_of l.kind l.bytes ≡ untagged_of l.fn.kind l.fn.bytes

abbrev pub decreases-loop-bytes : goal.decreases-loop-bytes
decreases-loop-bytes l = length l.bytes
