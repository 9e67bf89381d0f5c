use Rattle.front_model.proofs.Ending.{even}
use Rattle.front_model.proofs.laws.packets_end_once.Goals as goal

pub returns : goal.returns
returns c = even
