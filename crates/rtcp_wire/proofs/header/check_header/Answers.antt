use Rattle.std.proofs.Common.{◌∙◌, sym, arith}
use Rattle.rtcp_wire.proofs.Heads.{short, version, passes_end, padding, first, none}
use Rattle.rtcp_wire.proofs.header.check_header.Goals as goal

pub returns-then-bytes-lt-HEADER_SIZE : goal.returns-then-bytes-lt-HEADER_SIZE
returns-then-bytes-lt-HEADER_SIZE c = short c.args.offset c.args.bytes.now (omega arith)

pub returns-then-bytes-ne-VERSION : goal.returns-then-bytes-ne-VERSION
returns-then-bytes-ne-VERSION c = version c.args.offset c.args.bytes.now (omega arith) (λ e. omega arith)

pub returns-then-bytes-size : goal.returns-then-bytes-size
returns-then-bytes-size c = passes_end c.args.offset c.args.bytes.now (omega arith) (omega arith) (omega arith)

pub returns-then-is_bad_padding : goal.returns-then-is_bad_padding
returns-then-is_bad_padding c = padding c.args.offset c.args.bytes.now (omega arith) (omega arith) (omega arith) (sym c.is_bad_padding.ensures ∙ c.if-is_bad_padding.true)

pub returns-then-is_bad_first : goal.returns-then-is_bad_first
returns-then-is_bad_first c =
    first c.args.offset c.args.bytes.now (omega arith) (omega arith) (omega arith) (sym c.is_bad_padding.ensures ∙ c.if-is_bad_padding.false) (sym c.is_bad_first.ensures ∙ c.if-is_bad_first.true)

pub returns : goal.returns
returns c = (
  none c.args.offset c.args.bytes.now (omega arith) (omega arith) (omega arith) (sym c.is_bad_padding.ensures ∙ c.if-is_bad_padding.false) (sym c.is_bad_first.ensures ∙ c.if-is_bad_first.false),
  c.packet_size-size.ensures.value,
  omega arith,
  omega arith,
)
