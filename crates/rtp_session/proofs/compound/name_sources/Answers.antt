use Rattle.std.proofs.Common.{arith}
use Rattle.front_model.specs.Given.{chunk_asks}
use Rattle.rtp_session.proofs.Calling.{one_more}
use Rattle.rtp_session.proofs.compound.name_sources.Goals as goal

pub loop-chunk-preserved : goal.loop-chunk-preserved
loop-chunk-preserved c =
    one_more chunk_asks c.args.chunks.now c.loop-chunk.chunk-index c.chunk-item.result c.args.sources.now c.loop-chunk.sources c.describe.new.sources c.args.notes.now.items c.loop-chunk.notes.items c.describe.new.notes.items
    (omega arith) c.chunk-item.is c.loop-chunk.invariant c.in_ok-describe.ensures
