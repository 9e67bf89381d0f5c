use Rattle.std.proofs.Common.{subst}
use Rattle.command_core.specs.Steps.{Covers}
use Rattle.nack_answering.specs.Answering.{Rules}
use Rattle.nack_answering.specs.Standing.{rules_in}
use Rattle.rtxsend_command.specs.Sent.{sent_by}
use Rattle.rtxsend_command.proofs.Sending.{sent_goes_on}
use Rattle.rtxsend_command.proofs.command.rtxsend_open.Goals as goal

pub run_command-requires-clause-goes_on : goal.run_command-requires-clause-goes_on
run_command-requires-clause-goes_on g c = sent_goes_on (rules_in c.in_ok-command.command.answering)

pub returns-clause-covers : goal.returns-clause-covers
returns-clause-covers g c =
    subst (λ (rules : Rules). Covers (sent_by rules) c.run_command.result
    (g.F.Files.disk c.args.files.now) (g.F.Files.disk c.run_command.new.files)
    (g.O.Sink.written c.args.out.now) (g.O.Sink.written c.run_command.new.out))
    c.in_ok-command.ensures.rules c.run_command.ensures.covers
