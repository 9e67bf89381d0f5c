use Rattle.replay_model.proofs.Running.{lanes_run, lanes_run_whole}
use Rattle.replay_model.proofs.laws.lanes_are_runs.Goals as goal

pub returns-clause-part : goal.returns-clause-part
returns-clause-part c = lanes_run

pub returns-clause-whole : goal.returns-clause-whole
returns-clause-whole c = lanes_run_whole
