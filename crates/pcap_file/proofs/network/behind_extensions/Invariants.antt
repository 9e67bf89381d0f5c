use Rattle.std.proofs.Common.{◌≡◌, ◌+◌, length}
use Rattle.pcap_file.specs.Datagrams.{behind_extensions as behind_extensions_of}
use Rattle.pcap_file.proofs.network.behind_extensions.Given as goal

abbrev pub invariant-loop-bytes : goal.invariant-loop-bytes
invariant-loop-bytes l = behind_extensions_of (length l.bytes + 1) l.kind l.bytes ≡ behind_extensions_of (length l.fn.bytes + 1) l.fn.kind l.fn.bytes

abbrev pub decreases-loop-bytes : goal.decreases-loop-bytes
decreases-loop-bytes l = length l.bytes
