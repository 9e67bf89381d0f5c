use Rattle.replay_model.proofs.Turning.{settled_rests, turns_stop, turns_step}
use Rattle.replay_model.proofs.laws.turns_come_to_rest.Goals as goal

pub returns-clause-rest : goal.returns-clause-rest
returns-clause-rest c = settled_rests c.turns_run_out.ensures.falls

pub returns-clause-stop : goal.returns-clause-stop
returns-clause-stop c = turns_stop

pub returns-clause-step : goal.returns-clause-step
returns-clause-step c = turns_step c.turns_run_out.ensures.falls
