use Rattle.live_bin.proofs.States.{all_ended_state}
use Rattle.live_bin.proofs.state.LaneState.all_ended.Goals as goal

pub returns : goal.returns
returns g c = all_ended_state g.K.Run.plan c.args.self.now.lane c.all_ended.result c.args.self.now.kept c.all_ended.ensures
