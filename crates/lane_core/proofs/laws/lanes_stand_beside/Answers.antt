use Rattle.lane_core.proofs.Placing.{one_tells, lanes_go_on, lanes_rest, lanes_apart, lanes_opened, lanes_fewer}
use Rattle.lane_core.proofs.Tallying.{adds_more}
use Rattle.lane_core.proofs.laws.lanes_stand_beside.Goals as goal

pub returns : goal.returns
returns c = record {
  each = one_tells;
  go_on = lanes_go_on;
  rest = lanes_rest;
  apart = lanes_apart;
  opened = lanes_opened;
  fewer = lanes_fewer;
  added = adds_more;
}
