use Rattle.std.proofs.Common.{arith, ◌∙◌, sym}
use Rattle.rtp_wire.proofs.Faults.{short, version, csrc, extension_cut}
use Rattle.rtp_wire.proofs.reading.read_header.Goals as goal
use Rattle.rtp_wire.proofs.reading.read_header.Goals.{then-bytes-at-2-via-then-bytes-at-2, then-bytes-at-2-via-else-bytes-at-2+then-bytes-extension_end}

pub returns-then-bytes-lt-FIXED_SIZE : goal.returns-then-bytes-lt-FIXED_SIZE
returns-then-bytes-lt-FIXED_SIZE c = short c.args.bytes.now (omega arith)

pub returns-then-bytes-ne-VERSION : goal.returns-then-bytes-ne-VERSION
returns-then-bytes-ne-VERSION c = version c.args.bytes.now (omega arith) (λ e. omega arith)

pub returns-then-bytes-at : goal.returns-then-bytes-at
returns-then-bytes-at c = csrc c.args.bytes.now (omega arith) (omega arith) (omega arith)

pub returns-then-bytes-at-2 : goal.returns-then-bytes-at-2
returns-then-bytes-at-2 c =
    elim c.then-bytes-at-2.branch [
      | then-bytes-at-2-via-then-bytes-at-2 w ↦
          extension_cut c.args.bytes.now (omega arith) (omega arith) (omega arith) (sym c.has_extension.ensures ∙ c.if-not-has_extension.false) (omega arith)
      | then-bytes-at-2-via-else-bytes-at-2+then-bytes-extension_end w ↦
          extension_cut c.args.bytes.now (omega arith) (omega arith) (omega arith) (sym c.has_extension.ensures ∙ c.if-not-has_extension.false) (omega arith)
    ]
