use Rattle.std.proofs.Common.{◌≡◌, take}
use Rattle.rtp_io.specs.Outside.{AreBytes}
use Rattle.rtp_io.proofs.shelf.copy_of.Given as goal

abbrev pub invariant-loop-byte : goal.invariant-loop-byte
invariant-loop-byte l = (l.copy.items ≡ take l.byte-index l.bytes) × AreBytes l.copy.items
