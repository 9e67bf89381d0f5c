use Rattle.std.proofs.Common.{arith}
use Rattle.rtcp_wire.specs.Sdes.{chunks_at}
use Rattle.rtcp_wire.proofs.Chunks.{chunks_go, chunks_bad, chunks_end}
use Rattle.rtcp_wire.proofs.sdes.read_chunks.Goals as goal

pub returns-in-None : goal.returns-in-None
returns-in-None c =
    let found = rw c.in-None.is at c.in_ok-read_chunk.ensures in
    chunks_bad c.loop.chunks c.args.count c.loop.counter c.loop.rest.now (chunks_at c.args.count c.args.body.now) (omega arith) found c.loop.invariant

pub loop-preserved : goal.loop-preserved
loop-preserved c =
    let found = rw c.in-Some.is at c.in_ok-read_chunk.ensures in
    rw c.in_ok-push-in-Some.ensures.ok (chunks_go c.loop.chunks c.args.count c.loop.counter c.loop.rest.now c.in-Some.behind.now c.in-Some.chunk (chunks_at c.args.count c.args.body.now) (omega arith) found c.loop.invariant)

pub returns : goal.returns
returns c = chunks_end c.loop.chunks c.args.count c.loop.counter c.loop.rest.now (chunks_at c.args.count c.args.body.now) (omega arith) c.loop.invariant
