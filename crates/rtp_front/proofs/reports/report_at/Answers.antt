use Rattle.std.proofs.Common.{◌≡◌, ◌∙◌, ◌∷◌, ℕ, List, sym, ap}
use Rattle.std.specs.Prelude.{is_some, IsSome}
use Rattle.std.proofs.lemmas.Result.{on_ok_weaker}
use Rattle.front_model.specs.Given.{Given, Report}
use Rattle.front_model.specs.Moves.{moves}
use Rattle.front_model.specs.Notes.{notes}
use Rattle.front_model.specs.Sessions.{given, setting}
use Rattle.rtp_session.specs.declared.answers.Reported.{Reported}
use Rattle.rtp_session.specs.Answers.{report_notes}
use Rattle.rtp_front.specs.Sessions.{session_at}
use Rattle.rtp_front.proofs.Keeping.{kept_at, kept_again}
use Rattle.rtp_front.proofs.Reporting.{reported_at, at_some}
use Rattle.rtp_front.proofs.Telling.{on_any}
use Rattle.rtp_front.proofs.reports.report_at.Goals as goal

pub returns-in-Some-clause-steps : goal.returns-in-Some-clause-steps
returns-in-Some-clause-steps c = λ k older kept same.
    let n : ℕ = c.args.number in
    let some : IsSome (session_at c.args.sessions.now.entries c.args.number) =
    sym c.in_ok-reported.ensures.kept ∙ ap is_some c.in-Some.is
    in
    let g : List Given = given k c.args.number older in
    let found = kept_at k n g c.args.sessions.now.entries kept some in
    on_ok_weaker c.tell_report.result
    (reported_at k c.args.time c.args.timeout older n (report_notes c.in-Some.reported)
    c.args.steps.now.items c.tell_report.new.steps.items same found.1
    (at_some c.in_ok-reported.field-0 c.in-Some.reported
    (λ (r : Reported). report_notes r
    ≡ notes (setting k c.args.number) (given k c.args.number older)
    (Report c.args.time c.args.timeout))
    c.in-Some.is (c.in_ok-reported.ensures.answer (setting k n) g found.0)))
    (c.tell_report.ensures k (moves k older))

pub returns-in-Some-clause-stands : goal.returns-in-Some-clause-stands
returns-in-Some-clause-stands c = λ k older kept.
    let n : ℕ = c.args.number in
    let some : IsSome (session_at c.args.sessions.now.entries c.args.number) =
    sym c.in_ok-reported.ensures.kept ∙ ap is_some c.in-Some.is
    in
    let g : List Given = given k c.args.number older in
    let found = kept_at k n g c.args.sessions.now.entries kept some in
    on_any c.tell_report.result _
    (kept_again k n (Report c.args.time c.args.timeout ∷ g) c.report_session.new.sessions.entries
    (c.in_ok-reported.ensures.stands (setting k n) g found.0) found.1)
