use Rattle.front_model.proofs.InOrder.{open_in_order}
use Rattle.front_model.proofs.laws.lanes_open_in_order.Goals as goal

pub returns : goal.returns
returns c = open_in_order (record { new = c.lanes_go_on.ensures.new; known = c.lanes_go_on.ensures.known; full = c.lanes_go_on.ensures.full })
