use Rattle.std.proofs.Common.{List, ℕ}
use Rattle.std.specs.Prelude.{option_map}
use Rattle.rtp_front.specs.Standing.{IntakeState}
use Rattle.rtp_front.proofs.Holding.{named, none_mapped}
use Rattle.rtp_front.proofs.Taking.{intake_of, stands_by}
use Rattle.rtp_front.proofs.intake.Intake.cname.Goals as goal

pub returns : goal.returns
returns c = λ k events stands.
    let x : IntakeState =
    intake_of c.self.inside.choices c.self.inside.own c.self.inside.timeout
    c.self.inside.sessions.entries c.self.inside.streams
    in
    let st = stands_by x c.args.self.now k events c.self.view_is stands in
    named k c.args.session c.args.ssrc events c.self.inside.sessions.entries _
    (st.sessions c.args.session) c.cname_in.ensures.stands
    (λ e. none_mapped c.cname_in.result _ (c.cname_in.ensures.none e))
