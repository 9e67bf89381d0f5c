use Rattle.std.proofs.Common.{ℕ, ◌∷◌, sym, subst}
use Rattle.std.proofs.lemmas.Result.{on_ok_weaker}
use Rattle.front_model.specs.Given.{Report}
use Rattle.front_model.specs.Sessions.{given}
use Rattle.rtp_front.specs.Sessions.{session_at, IsKept, HeardAtMost}
use Rattle.rtp_front.specs.Standing.{IntakeState}
use Rattle.rtp_front.proofs.Taking.{intake_of, stands_by, reports_taken}
use Rattle.rtp_front.proofs.intake.Intake.report.Goals as goal

pub returns-clause-steps : goal.returns-clause-steps
returns-clause-steps c = λ k older stands.
    let x : IntakeState =
    intake_of c.self.inside.choices c.self.inside.own c.self.inside.timeout
    c.self.inside.sessions.entries c.self.inside.streams
    in
    let st = stands_by x c.args.self.now k older c.self.view_is stands in
    c.report_all.ensures.steps k older st.sessions st.timeout

pub returns-clause-stands : goal.returns-clause-stands
returns-clause-stands c = λ k older stands.
    let x : IntakeState =
    intake_of c.self.inside.choices c.self.inside.own c.self.inside.timeout
    c.self.inside.sessions.entries c.self.inside.streams
    in
    let st = stands_by x c.args.self.now k older c.self.view_is stands in
    on_ok_weaker c.report_all.result
    (reports_taken k c.args.time older x c.report_all.new.sessions.entries st)
    (c.report_all.ensures.stands k older st.sessions)

pub returns-clause-heard : goal.returns-clause-heard
returns-clause-heard c = λ n h.
    c.report_all.ensures.heard n
    (subst (λ (v : IntakeState). HeardAtMost n v.sessions) (sym c.self.view_is) h)
