use Rattle.jitter_model.proofs.Falling.{left_falls, left_le, clock_same}
use Rattle.jitter_model.proofs.laws.turns_run_out.Goals as goal

pub returns-clause-falls : goal.returns-clause-falls
returns-clause-falls c = left_falls

pub returns-clause-never_rises : goal.returns-clause-never_rises
returns-clause-never_rises c = left_le

pub returns-clause-clock : goal.returns-clause-clock
returns-clause-clock c = clock_same
