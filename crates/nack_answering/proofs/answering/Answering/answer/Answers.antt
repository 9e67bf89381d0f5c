use Rattle.std.proofs.Common.{List, Option, Some, Ok, ap, sym, subst, ◌∙◌}
use Rattle.std.specs.Prelude.{option_map}
use Rattle.rtx.specs.Answering as history
use Rattle.rtx.specs.Answering.{Answers, calls_after, answered, IsAnswer}
use Rattle.rtx.specs.Sending.{Sending}
use Rattle.rtx.specs.declared.answers.Retransmission.{Retransmission}
use Rattle.nack_answering.specs.Answering.{answer_record}
use Rattle.nack_answering.specs.Standing.{State, StandsFor}
use Rattle.nack_answering.proofs.Keeping.{stands_after}
use Rattle.nack_answering.proofs.Short.{answer_fits}
use Rattle.nack_answering.proofs.answering.Answering.answer.Goals as goal

pub invariant_of-self-in-Some : goal.invariant_of-self-in-Some
invariant_of-self-in-Some c =
    let old = c.self.invariant in
    let r = c.args.request in
    let call = Answers r.session r.ssrc r.seq in (
      calls_after call old.0 c.answer.result,
      stands_after c.self.inside.sessions.items c.self.inside.history c.answer.new.self call old.0
          c.answer.result tt c.answer.ensures.stands old.1,
    )

pub record_of-requires-clause-small : goal.record_of-requires-clause-small
record_of-requires-clause-small c =
    let old = c.self.invariant in
    let r = c.args.request in
    let s = c.self.inside.history.setting in
    answer_fits s old.0 r.session r.ssrc r.seq c.in-Some.retransmission old.1.small
    (subst (λ (f : Option Retransmission). IsAnswer s old.0 r.session r.ssrc r.seq (Ok f)) c.in-Some.is
    (c.in_ok-retransmission.ensures.answer s old.0 old.1.history))

pub returns-in_ok-record-in-Some-clause-answer : goal.returns-in_ok-record-in-Some-clause-answer
returns-in_ok-record-in-Some-clause-answer c = λ calls stands.
    let r = c.args.request in
    let now : State = c.args.self.now in
    let s = now.history.setting in
    let x = c.in-Some.retransmission in
    let same = ap (λ (y : State). y.history) c.self.view_is in
    let mine =
    subst (λ (k : Sending). history.StandsFor k s calls) (sym same) stands.history in
    let is =
    subst (λ (f : Option Retransmission). IsAnswer s calls r.session r.ssrc r.seq (Ok f)) c.in-Some.is
    (c.in_ok-retransmission.ensures.answer s calls mine) in
    let one = c.histories_have_one_answer.ensures.answered s calls r.session r.ssrc r.seq (Some x) is in
    ap (λ (l : List _). Some l) c.in_ok-record-in-Some.ensures
    ∙ ap (λ (y : State). Some (answer_record y.sessions c.args.time x)) c.self.view_is
    ∙ ap (option_map (answer_record now.sessions c.args.time)) one

pub returns-in_ok-record-in-Some-clause-stands : goal.returns-in_ok-record-in-Some-clause-stands
returns-in_ok-record-in-Some-clause-stands c = λ calls stands.
    let r = c.args.request in
    let mine = subst (λ (s : State). StandsFor s calls) (sym c.self.view_is) stands in
    stands_after c.self.inside.sessions.items c.self.inside.history c.answer.new.self
    (Answers r.session r.ssrc r.seq) calls (Ok c.in_ok-retransmission.field-0) tt
    c.in_ok-retransmission.ensures.stands mine

pub returns-in-None-clause-stands : goal.returns-in-None-clause-stands
returns-in-None-clause-stands c = λ calls stands.
    let r = c.args.request in
    let mine = subst (λ (s : State). StandsFor s calls) (sym c.self.view_is) stands in
    stands_after c.self.inside.sessions.items c.self.inside.history c.answer.new.self
    (Answers r.session r.ssrc r.seq) calls (Ok c.in_ok-retransmission.field-0) tt
    c.in_ok-retransmission.ensures.stands mine
