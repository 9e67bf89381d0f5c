use Rattle.replay_model.proofs.Passing.{records_part, records_all, items_all}
use Rattle.replay_model.proofs.laws.all_come.Goals as goal

pub returns-clause-part : goal.returns-clause-part
returns-clause-part c = records_part

pub returns-clause-records : goal.returns-clause-records
returns-clause-records c = records_all

pub returns-clause-items : goal.returns-clause-items
returns-clause-items c = items_all
