use Rattle.std.proofs.Common.{◌≡◌, ℕ, ◌+◌, List, [], ◌∷◌, ◌++◌, length, Ok, sym, ap, subst, ◌∙◌, arith, length-append}
use Rattle.std.proofs.lemmas.Result.{err_from_is_err_and, on_ok_weaker}
use Rattle.pcap_file.specs.Capture.{Record}
use Rattle.pcap_file.specs.Reading.{record_view}
use Rattle.rtx.specs.Answering.{Call}
use Rattle.front_model.specs.Records.{holding}
use Rattle.nack_answering.specs.Asking.{requests_in}
use Rattle.nack_answering.specs.Answering.{Rules, calls}
use Rattle.nack_answering.specs.Standing.{StandsFor, rules_in}
use Rattle.command_core.specs.Steps.{Writes}
use Rattle.command_core.specs.Laws.{more_then, prints_more}
use Rattle.rtxsend_command.specs.Sent.{header_behind, pieces_of}
use Rattle.rtxsend_command.proofs.Sending.{header_fails, took, calls_more}
use Rattle.rtxsend_command.proofs.command.RtxSendCommand.take.Goals as goal

pub returns-in_err-print_header-clause-takes : goal.returns-in_err-print_header-clause-takes
returns-in_err-print_header-clause-takes g c =
    let now = c.args.self.now in
    let Stands : List Record → Type 0 = λ seen. (now.records ≡ length seen)
    × StandsFor now.answering (calls now.answering.sessions seen) in
    let e = err_from_is_err_and c.from_residual.result c.from_residual.ensures.1 in
    rw e.1 (header_fails (rules_in now.answering) now.records c.args.time
    (record_view c.args.link c.args.rec.now) c.in_err-print_header.field-0.0 Stands Stands _ _ _ _
    (λ seen stands. stands.0) c.in_err-print_header.ensures)

pub returns-clause-takes : goal.returns-clause-takes
returns-clause-takes g c =
    let now = c.args.self.now in
    let r = record_view c.args.link c.args.rec.now in
    let rules = rules_in now.answering in
    let sessions = ap (λ (x : Rules). x.sessions) c.print_answers_to.ensures.rules in
    let Before : List Record → Type 0 = λ seen. (now.records ≡ length seen)
    × StandsFor now.answering (calls rules.sessions seen) in
    let x = c.print_answers_to.new.answering in
    let After : List Record → Type 0 = λ seen. (now.records + 1 ≡ length seen)
    × StandsFor x (calls x.sessions seen) in
    took rules now.records c.args.time r c.print_answers_to.result Before After _ _ _ _ _
    (λ seen stands. stands.0) c.in_ok-print_header.ensures
    (λ seen stands at.
    subst (λ (t : ℕ). Writes c.print_answers_to.result
    (pieces_of rules t (calls rules.sessions seen) (requests_in (holding rules.sessions r)))
    (g.O.Sink.written c.print_header.new.out) (g.O.Sink.written c.print_answers_to.new.out)) at
    (c.print_answers_to.ensures.answers (calls rules.sessions seen) stands.1))
    (λ seen stands.
    on_ok_weaker c.print_answers_to.result
    (λ done. (
      omega (arith, stands.0, length-append seen (r ∷ [])),
      subst (λ (l : List Call). StandsFor c.print_answers_to.new.answering l)
          (sym (calls_more rules.sessions seen r)
          ∙ ap (λ (ss : List _). calls ss (seen ++ r ∷ [])) (sym sessions)) done,
    ))
    (c.print_answers_to.ensures.stands (calls rules.sessions seen) stands.1))

pub returns-clause-more : goal.returns-clause-more
returns-clause-more g c =
    more_then _ _ _
    (prints_more (header_behind c.args.self.now.records) (Ok tt) _ _ _ _ c.in_ok-print_header.ensures)
    c.print_answers_to.ensures.more
