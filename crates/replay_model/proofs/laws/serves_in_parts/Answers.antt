use Rattle.replay_model.proofs.Parting.{in_parts}
use Rattle.replay_model.proofs.laws.serves_in_parts.Goals as goal

pub returns : goal.returns
returns c = in_parts c.wakes_are_later.ensures
