use Rattle.std.proofs.Common.{◌≡◌, ◌++◌, take}
use Rattle.rtp_wire.specs.Written.{csrc_bytes}
use Rattle.rtp_wire.proofs.writing.push_csrcs.Given as goal

abbrev pub invariant-loop-csrc : goal.invariant-loop-csrc
invariant-loop-csrc l = l.out.items ≡ l.fn.out.items ++ csrc_bytes (take l.csrc-index l.csrcs)
