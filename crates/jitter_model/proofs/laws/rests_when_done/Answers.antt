use Rattle.jitter_model.proofs.Ending.{idle_covers, not_idle}
use Rattle.jitter_model.proofs.laws.rests_when_done.Goals as goal

pub returns-clause-done : goal.returns-clause-done
returns-clause-done c = idle_covers

pub returns-clause-told : goal.returns-clause-told
returns-clause-told c = not_idle
