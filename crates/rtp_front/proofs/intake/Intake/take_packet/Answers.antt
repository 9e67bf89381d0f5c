use Rattle.std.proofs.Common.{◌≡◌, ◌∙◌, ℕ, List, ap}
use Rattle.std.specs.Prelude.{is_some, IsSome}
use Rattle.std.proofs.lemmas.Result.{on_ok_weaker}
use Rattle.front_model.specs.Given.{Given}
use Rattle.front_model.specs.Moves.{moves}
use Rattle.front_model.specs.Probation.{kept_at as packet_at}
use Rattle.front_model.specs.Sessions.{given, setting}
use Rattle.front_model.specs.Types.{rate}
use Rattle.rtp_session.specs.Answers.{out_notes}
use Rattle.rtp_front.specs.Sessions.{session_at}
use Rattle.rtp_front.specs.Standing.{IntakeState, StandsIn}
use Rattle.rtp_front.proofs.Keeping.{kept_at}
use Rattle.rtp_front.proofs.Taking.{intake_of, stands_by, packet_taken}
use Rattle.rtp_front.proofs.intake.Intake.take_packet.Goals as goal

pub returns-clause-takes : goal.returns-clause-takes
returns-clause-takes c = λ k older stands.
    let i = c.self.inside in
    let x : IntakeState =
    intake_of c.self.inside.choices c.self.inside.own c.self.inside.timeout
    c.self.inside.sessions.entries c.self.inside.streams
    in
    let st = stands_by x c.args.self.now k older c.self.view_is stands in
    let some : IsSome (session_at c.self.inside.sessions.entries c.args.session) =
    ap (λ (v : IntakeState). is_some (session_at v.sessions c.args.session)) c.self.view_is
    ∙ c.requires.kept
    in
    let g : List Given = given k c.args.session older in
    let found = kept_at k c.args.session g i.sessions.entries (st.sessions c.args.session) some in
    on_ok_weaker c.take_heard.result
    (packet_taken k c.args.time older c.args.session c.args.from c.args.view.now c.rate-rate.result
    (out_notes (packet_at c.args.time c.args.view.now) c.in_ok-heard.heard)
    c.args.steps.now.items c.take_heard.new.steps.items x
    c.hear_packet.new.sessions.entries c.take_heard.new.streams st found.1
    (c.rate-rate.ensures k st.chosen ∙ ap (rate k c.args.session) c.pt.ensures.value)
    (c.in_ok-heard.ensures.answer (setting k c.args.session) g found.0)
    (c.in_ok-heard.ensures.stands (setting k c.args.session) g found.0)
    c.in_ok-heard.ensures.rest)
    (c.take_heard.ensures k (moves k older) st.chosen st.streams)
