use Rattle.jitter_model.proofs.Giving.{given_one}
use Rattle.jitter_model.proofs.laws.gives_what_came.Goals as goal

pub returns : goal.returns
returns c = given_one
