use Rattle.command_core.specs.Laws.{prints_more, prints_cause}
use Rattle.nack_answering.specs.Standing.{rules_in}
use Rattle.rtxsend_command.specs.Sent.{header_behind}
use Rattle.rtxsend_command.proofs.Sending.{took_last}
use Rattle.rtxsend_command.proofs.command.RtxSendCommand.finish.Goals as goal

pub returns-clause-finishes : goal.returns-clause-finishes
returns-clause-finishes g c =
    let now = c.args.self.now in
    took_last (rules_in now.answering) now.records c.print_header.result _ _ _ _ _
    (λ seen stands. stands.0) c.print_header.ensures

pub returns-clause-more : goal.returns-clause-more
returns-clause-more g c =
    prints_more (header_behind c.args.self.now.records) c.print_header.result _ _ _ _
    c.print_header.ensures

pub returns-clause-cause : goal.returns-clause-cause
returns-clause-cause g c =
    prints_cause (header_behind c.args.self.now.records) c.print_header.result _ _ _ _
    c.print_header.ensures
