use Rattle.std.proofs.Common.{ℕ, List, take, subst, ◌∙◌}
use Rattle.std.proofs.lemmas.Result.{err_from_is_err_and}
use Rattle.rtx.specs.Answering.{Call}
use Rattle.nack_answering.specs.declared.request.Request.{Request}
use Rattle.nack_answering.specs.Standing.{StandsFor, rules_in}
use Rattle.command_core.specs.Laws.{more_then}
use Rattle.rtxsend_command.proofs.Answers.{asked, asked_at, adds_piece, adds_front}
use Rattle.rtxsend_command.proofs.command.print_answers.Goals as goal

pub loop-request-preserved : goal.loop-request-preserved
loop-request-preserved g c =
    let l = c.loop-request in
    let i : ℕ = l.request-index in
    let rs : List Request = c.args.requests.now in
    record {
      rules = c.print_answer.ensures.rules ∙ l.invariant.rules;
      answers = λ before stands.
          adds_piece (rules_in c.args.answering.now) (rules_in l.answering) c.args.time before rs i _ _ _ _
          l.invariant.rules c.loop-request-test.true (l.invariant.answers before stands)
          (c.in_ok-print_answer.ensures.answers (asked (take i rs) before) (l.invariant.stands before stands));
      stands = λ before stands.
          subst (λ (k : List Call). StandsFor c.print_answer.new.answering k)
          (asked_at before rs i _ c.loop-request-test.true)
          (c.in_ok-print_answer.ensures.stands (asked (take i rs) before) (l.invariant.stands before stands));
      more = more_then _ _ _ l.invariant.more c.print_answer.ensures.more;
      faults = c.in_ok-print_answer.ensures.cause ∙ l.invariant.faults;
    }

pub returns-in_err-print_answer-clause-answers : goal.returns-in_err-print_answer-clause-answers
returns-in_err-print_answer-clause-answers g c = λ before stands.
    let l = c.loop-request in
    let i : ℕ = l.request-index in
    let rs : List Request = c.args.requests.now in
    let e = err_from_is_err_and c.from_residual.result c.from_residual.ensures.1 in
    rw e.1 (adds_front (rules_in c.args.answering.now) (rules_in l.answering) c.args.time before rs i _ _ _ _
    l.invariant.rules c.loop-request-test.true (l.invariant.answers before stands)
    (c.in_err-print_answer.ensures.answers (asked (take i rs) before) (l.invariant.stands before stands)))

pub returns-in_err-print_answer-clause-more : goal.returns-in_err-print_answer-clause-more
returns-in_err-print_answer-clause-more g c =
    more_then _ _ _ c.loop-request.invariant.more c.print_answer.ensures.more
