use Rattle.std.proofs.Common.{rules, sym, ap, ◌∙◌}
use Rattle.pcap_file.proofs.Opening.{opens_cut, opens_none, opens_bad, opens_good, opens_ng, format_other}
use Rattle.pcap_file.proofs.pcap.open_any.Goals as goal

pub returns-in-Err-End-clause-after : goal.returns-in-Err-End-clause-after
returns-in-Err-End-clause-after g c =
    let after = rw (c.in-Err-End.is, c.in-Err-End.field-0-is) at c.need.follows.holds-at-none in
    (opens_cut c.in-Err-End.field-0-0 c.args.pull.now c.need.follows.lender-at-none _ _ after, λ e. cc)

pub returns-in-Err-ReadFault-clause-after : goal.returns-in-Err-ReadFault-clause-after
returns-in-Err-ReadFault-clause-after g c =
    let after = rw (c.in-Err-ReadFault.is, c.in-Err-ReadFault.field-0-is) at c.need.follows.holds-at-none in
    (opens_none c.args.pull.now c.need.follows.lender-at-none _ _ after, λ e. cc)

pub returns-then-starts_with-clause-after : goal.returns-then-starts_with-clause-after
returns-then-starts_with-clause-after g c =
    let after = rw c.in-Ok.is at c.need.follows.holds-at-none in
    opens_ng _ c.in-Ok.bytes.now c.args.pull.now c.need.follows.lender-at-none _ _ c.in-Ok.ensures.length c.copied-head.ensures (sym c.starts_with.ensures.value ∙ c.if-starts_with.true) after.0

pub returns-in-Ok-read_header-clause-after : goal.returns-in-Ok-read_header-clause-after
returns-in-Ok-read_header-clause-after g c =
    let after = rw c.in-Ok.is at c.need.follows.holds-at-none in
    opens_good c.in-Ok.bytes.now c.args.pull.now c.need.follows.lender-at-none c.in-Ok-read_header.format _ _ c.in-Ok.ensures.length (rw (← c.copied-head.ensures) c.in-Ok-read_header.ensures.format) after.0

pub returns-in-Err-clause-after : goal.returns-in-Err-clause-after
returns-in-Err-clause-after g c =
    let after = rw c.in-Ok.is at c.need.follows.holds-at-none in (
      opens_bad c.in-Ok.bytes.now c.args.pull.now c.need.follows.lender-at-none c.in-Err.fault _ _ c.in-Ok.ensures.length (rw (← c.copied-head.ensures) c.in-Err.ensures.format) c.in-Err.ensures.fault after.0,
      format_other c.in-Err.fault _ (sym c.starts_with.ensures.value ∙ c.if-starts_with.false) c.in-Err.ensures.format,
    )
