use Rattle.std.proofs.Common.{length, arith}
use Rattle.std.proofs.lemmas.Result.{err_from_is_err_and}
use Rattle.rtcp_wire.specs.Compound.{headers_fault}
use Rattle.rtcp_wire.proofs.Runs.{headers_stop, headers_end, headers_go, headers_none_left}
use Rattle.rtcp_wire.proofs.compound.check_headers.Goals as goal

pub returns-in_err-size : goal.returns-in_err-size
returns-in_err-size c =
    let p = err_from_is_err_and c.from_residual.result c.from_residual.ensures.1 in
    rw (p.1, p.2) (headers_stop (length c.args.bytes.now) c.loop.counter c.loop.offset c.loop.rest.now c.in_err-size.field-0.0 (headers_fault (length c.args.bytes.now) 0 c.args.bytes.now) (omega arith) c.in_err-size.ensures c.loop.invariant.0)

pub returns-then-size-rest : goal.returns-then-size-rest
returns-then-size-rest c =
    headers_end (length c.args.bytes.now) c.loop.counter c.loop.offset c.in_ok-size.size c.loop.rest.now (headers_fault (length c.args.bytes.now) 0 c.args.bytes.now) (omega arith) c.in_ok-size.ensures.0 c.in_ok-size.ensures.1 c.if-size-rest.true c.loop.invariant.0

pub loop-preserved : goal.loop-preserved
loop-preserved c = (
  rw c.split_at.ensures.back (headers_go (length c.args.bytes.now) c.loop.counter c.loop.offset c.in_ok-size.size c.loop.rest.now (headers_fault (length c.args.bytes.now) 0 c.args.bytes.now) (omega arith) c.in_ok-size.ensures.0 c.in_ok-size.ensures.1 c.if-size-rest.false c.loop.invariant.0),
  omega (arith, c.split_at.ensures.back_len, c.loop.invariant.1),
)

pub returns : goal.returns
returns c = headers_none_left (length c.args.bytes.now) c.loop.counter c.loop.offset c.loop.rest.now (headers_fault (length c.args.bytes.now) 0 c.args.bytes.now) (omega arith) c.loop.invariant.0
