use Rattle.front_model.specs.Moves.{moves}
use Rattle.rtp_front.specs.Standing.{IntakeState}
use Rattle.rtp_front.proofs.Taking.{intake_of, stands_by}
use Rattle.rtp_front.proofs.intake.Intake.note_request.Goals as goal

pub returns-clause-stands : goal.returns-clause-stands
returns-clause-stands c = λ k older stands.
    let x : IntakeState =
    intake_of c.self.inside.choices c.self.inside.own c.self.inside.timeout
    c.self.inside.sessions.entries c.self.inside.streams
    in
    let st = stands_by x c.args.self.now k older c.self.view_is stands in
    record {
      chosen = st.chosen;
      own = st.own;
      timeout = st.timeout;
      sessions = st.sessions;
      streams = c.note_request.ensures k (moves k older) st.streams;
    }
