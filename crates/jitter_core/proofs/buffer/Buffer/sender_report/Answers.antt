use Rattle.std.proofs.Common.{arith}
use Rattle.jitter_core.proofs.Passing.{report_is, reported_keeps}
use Rattle.jitter_core.proofs.Reached.{reached_bounded}
use Rattle.jitter_core.proofs.buffer.Buffer.sender_report.Goals as goal

pub report_on-requires : goal.report_on-requires
report_on-requires c = reached_bounded c.runs_are_bounded.ensures c.replies_tell.ensures c.numbers_lie_between.ensures c.args.self.now.state c.args.self.now.reached

pub returns-clause-value : goal.returns-clause-value
returns-clause-value c = λ h st. report_is c.args.self.now.state h c.args.ntp_ns c.args.rtp c.report_on.result st c.report_on.ensures

pub returns-clause-stands : goal.returns-clause-stands
returns-clause-stands c = λ h st. reported_keeps c.args.self.now.state h c.args.ntp_ns c.args.rtp c.report_on.result st (omega arith) (omega arith) c.report_on.ensures
