use Rattle.std.proofs.Common.{◌≡◌, ◌∙◌, ℕ, List, map, ap}
use Rattle.std.specs.Prelude.{is_some, IsSome, Vec}
use Rattle.std.specs.declared.alloc.Global.{Global}
use Rattle.rtp_session.specs.declared.answers.SessionNote.{SessionNote}
use Rattle.std.proofs.lemmas.Result.{on_ok_weaker}
use Rattle.rtcp_wire.specs.Compound.{compound_of}
use Rattle.front_model.specs.Given.{Given}
use Rattle.front_model.specs.Moves.{moves}
use Rattle.front_model.specs.Sessions.{given, setting}
use Rattle.rtp_session.specs.Answers.{told}
use Rattle.rtp_front.specs.Sessions.{session_at}
use Rattle.rtp_front.specs.Standing.{IntakeState, StandsIn}
use Rattle.rtp_front.proofs.Keeping.{kept_at}
use Rattle.rtp_front.proofs.Taking.{intake_of, stands_by, compound_taken, bad_taken}
use Rattle.rtp_front.proofs.Telling.{on_both}
use Rattle.rtp_front.proofs.intake.Intake.take_compound.Goals as goal

pub returns-in-Ok-clause-takes : goal.returns-in-Ok-clause-takes
returns-in-Ok-clause-takes c = λ k older stands.
    let x : IntakeState =
    intake_of c.self.inside.choices c.self.inside.own c.self.inside.timeout
    c.self.inside.sessions.entries c.self.inside.streams
    in
    let st = stands_by x c.args.self.now k older c.self.view_is stands in
    let some : IsSome (session_at c.self.inside.sessions.entries c.args.session) =
    ap (λ (v : IntakeState). is_some (session_at v.sessions c.args.session)) c.self.view_is
    ∙ c.requires
    in
    let g : List Given = given k c.args.session older in
    let found =
    kept_at k c.args.session g c.self.inside.sessions.entries (st.sessions c.args.session) some
    in
    on_ok_weaker c.take_notes.result
    (compound_taken k c.args.time older c.args.session (compound_of c.args.bytes.now)
    (map told c.in-Ok.notes.items) c.args.steps.now.items c.take_notes.new.steps.items x
    c.hear_compound.new.sessions.entries c.take_notes.new.streams st found.1
    (c.in-Ok.ensures.answer (setting k c.args.session) g found.0)
    (c.in-Ok.ensures.stands (setting k c.args.session) g found.0)
    c.in-Ok.ensures.rest)
    (c.take_notes.ensures k (moves k older) st.streams)

pub returns-in-Err-clause-takes : goal.returns-in-Err-clause-takes
returns-in-Err-clause-takes c = λ k older stands.
    let x : IntakeState =
    intake_of c.self.inside.choices c.self.inside.own c.self.inside.timeout
    c.self.inside.sessions.entries c.self.inside.streams
    in
    let st = stands_by x c.args.self.now k older c.self.view_is stands in
    let some : IsSome (session_at c.self.inside.sessions.entries c.args.session) =
    ap (λ (v : IntakeState). is_some (session_at v.sessions c.args.session)) c.self.view_is
    ∙ c.requires
    in
    let g : List Given = given k c.args.session older in
    let found =
    kept_at k c.args.session g c.self.inside.sessions.entries (st.sessions c.args.session) some
    in
    on_both c.tell_bad_compound.result _ _ _
    (λ steps memory.
    bad_taken (Vec SessionNote Global) k c.args.time older c.args.session c.in-Err.fault (compound_of c.args.bytes.now)
    c.args.steps.now.items c.tell_bad_compound.new.steps.items x
    c.hear_compound.new.sessions.entries st found.1
    (c.in-Err.ensures.answer (setting k c.args.session) g found.0)
    (c.in-Err.ensures.stands (setting k c.args.session) g found.0)
    c.in-Err.ensures.rest memory steps)
    c.tell_bad_compound.ensures.steps c.tell_bad_compound.ensures.memory
