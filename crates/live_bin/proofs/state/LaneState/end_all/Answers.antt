use Rattle.live_bin.proofs.Growing.{one_more, all_have_state}
use Rattle.live_bin.proofs.state.LaneState.end_all.Goals as goal

pub loop-pusher-preserved : goal.loop-pusher-preserved
loop-pusher-preserved g c =
    let i = c.loop-pusher.invariant in
    one_more c.args.plan.now c.args.self.now.lane c.loop-pusher.self.lane c.end_session.new.self.lane c.loop-pusher.pusher
    i.0 c.in_ok-end_session.ensures.grows i.1 i.2 c.in_ok-end_session.ensures.ended

pub returns-clause-ended : goal.returns-clause-ended
returns-clause-ended g c =
    let i = c.loop-pusher.invariant in
    all_have_state c.args.plan.now g.K.Run.plan c.args.self.now.lane c.loop-pusher.self.lane c.loop-pusher.pusher
    c.requires.plan i.0 c.loop-pusher.self.named c.loop-pusher-test.false i.1 i.2
