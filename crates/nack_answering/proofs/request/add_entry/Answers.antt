use Rattle.nack_answering.proofs.Listing.{bits_more}
use Rattle.nack_answering.proofs.request.add_entry.Goals as goal

pub loop-bit-preserved : goal.loop-bit-preserved
loop-bit-preserved c =
    bits_more c.args.session c.args.media c.args.entry c.loop-bit.bit c.push.new.self.items _ _
    c.loop-bit.invariant c.in_ok-add_bit.ensures
