use Rattle.replay_sound.proofs.Joining.{sound}
use Rattle.replay_sound.proofs.laws.scripts_are_sound.Goals as goal

pub returns : goal.returns
returns c =
    sound (record { new = c.lanes_go_on.ensures.new; known = c.lanes_go_on.ensures.known; full = c.lanes_go_on.ensures.full })
    c.ranges_hold.ensures c.records_give_few.ensures
