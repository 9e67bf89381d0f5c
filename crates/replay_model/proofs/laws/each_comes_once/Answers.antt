use Rattle.replay_model.proofs.Coming.{all_have_come}
use Rattle.replay_model.proofs.laws.each_comes_once.Goals as goal

pub returns-clause-records : goal.returns-clause-records
returns-clause-records c = λ x xs. (all_have_come x xs).records_are

pub returns-clause-items : goal.returns-clause-items
returns-clause-items c = λ x xs. (all_have_come x xs).items_are
