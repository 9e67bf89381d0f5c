use Rattle.std.proofs.Common.{◌∙◌}
use Rattle.live_bin.proofs.Growing.{whole_state}
use Rattle.live_bin.proofs.state.LaneState.complete.Goals as goal

pub returns-clause-whole : goal.returns-clause-whole
returns-clause-whole g c =
    rw c.of.ensures (whole_state c.rests_after_the_end.ensures c.args.plan.now g.K.Run.plan c.finish.new.self.lane c.args.self.lane.number
    c.requires.plan c.finish.new.self.named c.finish.new.self.kept c.in_ok-finish.ensures.told
    (c.in_ok-finish.ensures.grows.number ∙ c.in_ok-end_all.ensures.grows.number))
