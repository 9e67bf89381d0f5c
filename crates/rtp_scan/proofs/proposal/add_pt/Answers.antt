use Rattle.std.proofs.Common.{◌≡◌}
use Rattle.rtp_scan.proofs.Behind.{pt_pushed}
use Rattle.rtp_scan.proofs.proposal.add_pt.Goals as goal

pub returns-in_ok-push-clause-sound : goal.returns-in_ok-push-clause-sound
returns-in_ok-push-clause-sound c =
    let same : c.deref.result.now ≡ c.args.pts.now.items = cc in
    pt_pushed c.args.sessions.now c.args.pts.now.items c.deref.result.now c.push.new.self.items
    c.pt_line-line.result c.takes_pt.result c.in_ok-push.ensures.items c.requires same
    c.takes_pt.ensures c.if-takes_pt.true
