use Rattle.std.specs.FinMap as map
use Rattle.live_bin.proofs.States.{store_state}
use Rattle.live_bin.proofs.state.LaneState.store.Goals as goal

pub returns : goal.returns
returns g c =
    store_state g.K.Run.plan c.args.self.now.lane (λ n. map.get c.store.result.now n)
    c.args.self.now.kept c.store.ensures
