use Rattle.std.proofs.Common.{◌≡◌, ◌∙◌, nat_eq, ℕ, List, take, sym, ap, refl}
use Rattle.std.proofs.lemmas.List.{take_all}
use Rattle.std.proofs.lemmas.List.Folds.{list_any_more}
use Rattle.script_lang.specs.Contents.{Contents}
use Rattle.script_lang.specs.Tests.{is_declared}
use Rattle.script_lang.specs.declared.script.SessionLine.{SessionLine}
use Rattle.rtp_front.proofs.Making.{made_more, made_so, made_kept, made_heard}
use Rattle.rtp_front.proofs.sessions.sessions_of.Goals as goal

pub loop-line-preserved : goal.loop-line-preserved
loop-line-preserved c = λ q.
    let xs : List SessionLine = c.as_slice-line-items.result.now in
    let i : ℕ = c.loop-line.line-index in
    made_more c.args.script.now q _ c.in_ok-session.session (is_declared (take i xs) q) _ _ _
    (list_any_more (λ (l : SessionLine). nat_eq l.session q) xs i _ c.loop-line-test.true)
    (c.in_ok-insert.ensures.updates.0 q)
    (made_so c.args.script.now _ _ _ _ c.in_ok-session.session
    (ap (λ (s : Contents). s.settings.ssrc) c.script.view_is)
    (ap (λ (s : Contents). s.settings.probation) c.script.view_is)
    (c.as_slice.ensures.value ∙ c.in_ok-paired.ensures)
    c.in_ok-session.ensures.stands)
    c.in_ok-session.ensures.heard
    (c.loop-line.invariant q)

pub returns-clause-kept : goal.returns-clause-kept
returns-clause-kept c = λ q.
    let xs : List SessionLine = c.as_slice-line-items.result.now in
    let i : ℕ = c.loop-line.line-index in
    made_kept c.args.script.now q (is_declared (take i xs) q) _
    (sym
    (ap (λ (ls : List SessionLine). is_declared ls q)
    (take_all i xs c.loop-line-test.false
    ∙ c.as_slice-line-items.ensures.value
    ∙ ap (λ (s : Contents). s.sessions) c.script.view_is)))
    (c.loop-line.invariant q)

pub returns-clause-heard : goal.returns-clause-heard
returns-clause-heard c = λ q.
    made_heard c.args.script.now q
    (is_declared (take c.loop-line.line-index c.as_slice-line-items.result.now) q) _
    (c.loop-line.invariant q)
