use Rattle.front_model.proofs.Counting.{count_up}
use Rattle.front_model.proofs.laws.numbers_count_up.Goals as goal

pub returns : goal.returns
returns c = count_up
