use Rattle.std.proofs.Common.{◌≡◌}
use Rattle.rtp_scan.proofs.Behind.{session_pushed}
use Rattle.rtp_scan.proofs.proposal.add_session.Goals as goal

pub returns-in_ok-push-clause-sound : goal.returns-in_ok-push-clause-sound
returns-in_ok-push-clause-sound c =
    let same : c.deref.result.now ≡ c.args.sessions.now.items = cc in
    session_pushed c.args.sessions.now.items c.deref.result.now c.push.new.self.items _
    c.takes_session.result c.in_ok-push.ensures.items c.requires same c.takes_session.ensures
    c.if-takes_session.true
