use Rattle.std.proofs.Common.{arith, ap}
use Rattle.std.specs.Prelude.{bit_or}
use Rattle.rtp_front.proofs.Bits.{bits_more, all_bits}
use Rattle.rtp_front.proofs.choices.pushers_in.Goals as goal

pub loop-other-preserved : goal.loop-other-preserved
loop-other-preserved c =
    bits_more c.args.script.now c.args.session c.loop-other.other c.loop-other.bits _ (omega arith)
    c.loop-other.invariant.0 c.loop-other.invariant.1
    (ap (bit_or c.loop-other.bits) c.pusher_bit-bits.ensures)

pub returns : goal.returns
returns c =
    all_bits c.args.script.now c.args.session c.loop-other.other c.loop-other.bits (omega arith)
    c.loop-other.invariant.0 c.loop-other.invariant.1
