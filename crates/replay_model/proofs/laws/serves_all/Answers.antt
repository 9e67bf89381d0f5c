use Rattle.replay_model.proofs.Serving.{served_ends, served_none, served_step}
use Rattle.replay_model.proofs.laws.serves_all.Goals as goal

pub returns-clause-none : goal.returns-clause-none
returns-clause-none c = served_ends c.wakes_are_later.ensures

pub returns-clause-stop : goal.returns-clause-stop
returns-clause-stop c = served_none

pub returns-clause-step : goal.returns-clause-step
returns-clause-step c = served_step c.wakes_are_later.ensures
