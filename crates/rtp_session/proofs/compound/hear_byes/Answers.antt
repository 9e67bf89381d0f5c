use Rattle.std.proofs.Common.{get_or, refl, arith}
use Rattle.rtp_session.proofs.Calling.{one_leaves}
use Rattle.rtp_session.proofs.compound.hear_byes.Goals as goal

pub loop-ssrc-preserved : goal.loop-ssrc-preserved
loop-ssrc-preserved c =
    one_leaves c.args.ssrcs.now c.loop-ssrc.ssrc-index (get_or c.args.ssrcs.now c.loop-ssrc.ssrc-index 0) c.args.sources.now c.loop-ssrc.sources c.hear_bye.new.sources c.args.notes.now.items
    c.loop-ssrc.notes.items c.hear_bye.new.notes.items (omega arith) refl c.loop-ssrc.invariant c.in_ok-hear_bye.ensures
