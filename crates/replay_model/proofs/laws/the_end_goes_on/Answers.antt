use Rattle.replay_model.proofs.Growing.{ending}
use Rattle.replay_model.proofs.laws.the_end_goes_on.Goals as goal

pub returns : goal.returns
returns c = ending
