use Rattle.std.proofs.Common.{◌++◌, List, ap, subst, ◌∙◌}
use Rattle.std.specs.Prelude.{OnOk}
use Rattle.pcap_file.specs.Reading.{record_view}
use Rattle.rtx.specs.Answering.{Call}
use Rattle.front_model.specs.Records.{holding}
use Rattle.nack_answering.specs.declared.request.Request.{Request}
use Rattle.nack_answering.specs.Asking.{requests_in}
use Rattle.nack_answering.specs.Answering.{Rules}
use Rattle.nack_answering.specs.Standing.{StandsFor, rules_in, remembered_in}
use Rattle.command_core.specs.Steps.{Writes}
use Rattle.rtxsend_command.specs.Sent.{pieces_of}
use Rattle.rtxsend_command.proofs.Answers.{asked}
use Rattle.rtxsend_command.proofs.Sending.{both_steps, same_pieces}
use Rattle.rtxsend_command.proofs.command.print_answers_to.Goals as goal

pub returns-clause-answers : goal.returns-clause-answers
returns-clause-answers g c = λ before stands.
    let x = c.args.answering.now in
    let h = holding x.sessions (record_view c.args.link c.args.rec.now) in
    let now = c.in_ok-requests.ensures.stands before stands in
    subst (λ (l : List _). Writes c.print_answers.result l
    (g.O.Sink.written c.args.out.now) (g.O.Sink.written c.print_answers.new.out))
    (ap (λ (rs : List Request). pieces_of (rules_in c.take.new.self) c.args.time (remembered_in h ++ before) rs)
    (c.as_slice.ensures.value ∙ c.in_ok-requests.ensures.requests)
    ∙ ap (λ (rules : Rules). pieces_of rules c.args.time (remembered_in h ++ before) (requests_in h))
    c.take.ensures.rules
    ∙ same_pieces (rules_in x) c.args.time h before)
    (c.print_answers.ensures.answers (remembered_in h ++ before) now)

pub returns-clause-stands : goal.returns-clause-stands
returns-clause-stands g c = λ before stands.
    let x = c.args.answering.now in
    let h = holding x.sessions (record_view c.args.link c.args.rec.now) in
    let now = c.in_ok-requests.ensures.stands before stands in
    subst (λ (l : List Call). OnOk c.print_answers.result (StandsFor c.print_answers.new.answering l))
    (ap (λ (rs : List Request). asked rs (remembered_in h ++ before))
    (c.as_slice.ensures.value ∙ c.in_ok-requests.ensures.requests)
    ∙ both_steps h before)
    (c.print_answers.ensures.stands (remembered_in h ++ before) now)
