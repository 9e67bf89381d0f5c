use Rattle.front_model.proofs.Fating.{one_fate}
use Rattle.front_model.proofs.laws.released_packets_have_one_fate.Goals as goal

pub returns : goal.returns
returns c = one_fate
