use Rattle.replay_sound.proofs.Joining.{suited}
use Rattle.replay_sound.proofs.laws.steps_suit_a_bin.Goals as goal

pub returns : goal.returns
returns c =
    suited (record { new = c.lanes_go_on.ensures.new; known = c.lanes_go_on.ensures.known; full = c.lanes_go_on.ensures.full })
    c.ranges_hold.ensures
