use Rattle.std.proofs.Common.{◌≡◌, ◌<◌, ◌^◌}
use Rattle.rtp_front.proofs.Bits.{bits_of}
use Rattle.rtp_front.proofs.choices.pushers_in.Given as goal

abbrev pub invariant-loop-other : goal.invariant-loop-other
invariant-loop-other l =
    (l.bits ≡ bits_of l.script l.session l.other) × (l.bits < 2 ^ l.other)
