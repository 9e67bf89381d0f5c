use Rattle.rtp_wire.proofs.Packets.{is_packet, is_only, no_other}
use Rattle.rtp_wire.proofs.reading.read.Goals as goal
use Rattle.std.proofs.Common.{refl}

pub returns-in_err-header_end-clause-only : goal.returns-in_err-header_end-clause-only
returns-in_err-header_end-clause-only c = λ p h e. absurd (no_other p c.args.bytes.now c.in_err-header_end.field-0.0 h e c.in_err-header_end.ensures)

pub returns-in_err-padding-clause-only : goal.returns-in_err-padding-clause-only
returns-in_err-padding-clause-only c = λ p h e. absurd (no_other p c.args.bytes.now c.in_err-padding.field-0.0 h e c.in_err-padding.ensures)

pub returns-clause-found : goal.returns-clause-found
returns-clause-found c = (is_packet c.args.bytes.now c.in_ok-header_end.header_end c.in_ok-padding.padding c.in_ok-padding.ensures, refl)

pub returns-clause-only : goal.returns-clause-only
returns-clause-only c = λ p h e. is_only p c.args.bytes.now h e
