use Rattle.jitter_model.proofs.Stepping.{moves}
use Rattle.jitter_model.proofs.laws.wakes_are_right.Goals as goal

pub returns : goal.returns
returns c = moves
