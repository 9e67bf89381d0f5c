use Rattle.replay_model.proofs.Passing.{inputs_more, inputs_next, left_more}
use Rattle.replay_model.proofs.laws.inputs_go_on.Goals as goal

pub returns-clause-more : goal.returns-clause-more
returns-clause-more c = inputs_more

pub returns-clause-next : goal.returns-clause-next
returns-clause-next c = inputs_next

pub returns-clause-left : goal.returns-clause-left
returns-clause-left c = left_more
