use Rattle.std.proofs.Common.{◌∙◌, sym, arith}
use Rattle.std.proofs.lemmas.Bool.Decides.{nat_tests}
use Rattle.rtp_wire.proofs.Faults.{padding}
use Rattle.rtp_wire.proofs.Packets.{padding_without, padding_with}
use Rattle.rtp_wire.proofs.reading.read_padding.Goals as goal
use Rattle.rtp_wire.proofs.reading.read_padding.Goals.{then-left-eq0-via-then-left-eq0, then-left-eq0-via-else-left-eq0+then-padding-eq0, then-left-eq0-via-else-left-eq0+else-padding-eq0+then-left-from}

pub returns-then-not-has_padding : goal.returns-then-not-has_padding
returns-then-not-has_padding c =
    let p = sym c.has_padding.ensures ∙ c.if-not-has_padding.true in
    padding_without c.args.bytes.now c.args.header_end c.requires p

pub returns-then-left-eq0 : goal.returns-then-left-eq0
returns-then-left-eq0 c =
    let p = sym c.has_padding.ensures ∙ c.if-not-has_padding.false in
    elim c.then-left-eq0.branch [
      | then-left-eq0-via-then-left-eq0 w ↦ padding c.args.bytes.now c.args.header_end c.requires p (grind (arith, nat_tests))
      | then-left-eq0-via-else-left-eq0+then-padding-eq0 w ↦ padding c.args.bytes.now c.args.header_end c.requires p (grind (arith, nat_tests))
      | then-left-eq0-via-else-left-eq0+else-padding-eq0+then-left-from w ↦ padding c.args.bytes.now c.args.header_end c.requires p (grind (arith, nat_tests))
    ]

pub returns : goal.returns
returns c =
    let p = sym c.has_padding.ensures ∙ c.if-not-has_padding.false in
    padding_with c.args.bytes.now c.args.header_end c.requires p (omega arith) (omega arith)
