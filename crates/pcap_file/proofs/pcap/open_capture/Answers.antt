use Rattle.pcap_file.proofs.Opening.{opens_cut, opens_none, opens_bad, opens_good}
use Rattle.pcap_file.proofs.pcap.open_capture.Goals as goal

pub returns-in-Err-End-clause-after : goal.returns-in-Err-End-clause-after
returns-in-Err-End-clause-after g c =
    let after = rw (c.in-Err-End.is, c.in-Err-End.field-0-is) at c.need.follows.holds-at-none in
    opens_cut c.in-Err-End.field-0-0 c.args.pull.now c.need.follows.lender-at-none _ _ after

pub returns-in-Err-ReadFault-clause-after : goal.returns-in-Err-ReadFault-clause-after
returns-in-Err-ReadFault-clause-after g c =
    let after = rw (c.in-Err-ReadFault.is, c.in-Err-ReadFault.field-0-is) at c.need.follows.holds-at-none in
    opens_none c.args.pull.now c.need.follows.lender-at-none _ _ after

pub returns-in-Ok-header-clause-after : goal.returns-in-Ok-header-clause-after
returns-in-Ok-header-clause-after g c =
    let after = rw c.in-Ok.is at c.need.follows.holds-at-none in
    opens_good c.in-Ok.bytes.now c.args.pull.now c.need.follows.lender-at-none c.in-Ok-header.format _ _ c.in-Ok.ensures.length c.in-Ok-header.ensures.format after.0

pub returns-in-Err-clause-after : goal.returns-in-Err-clause-after
returns-in-Err-clause-after g c =
    let after = rw c.in-Ok.is at c.need.follows.holds-at-none in
    opens_bad c.in-Ok.bytes.now c.args.pull.now c.need.follows.lender-at-none c.in-Err.fault _ _ c.in-Ok.ensures.length c.in-Err.ensures.format c.in-Err.ensures.fault after.0
