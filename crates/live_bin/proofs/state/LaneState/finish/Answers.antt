use Rattle.live_bin.proofs.Growing.{make_ready}
use Rattle.live_bin.proofs.state.LaneState.finish.Goals as goal

pub take_turns-requires : goal.take_turns-requires
take_turns-requires g c =
    record { ready = make_ready g.K.Run.plan c.args.self.now.lane c.args.self.now.named c.args.self.now.kept c.requires.ended c.requires.on c.if-self.false }
