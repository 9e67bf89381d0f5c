use Rattle.std.proofs.Common.{[]}
use Rattle.replay_model.proofs.Passing.{times_next}
use Rattle.replay_model.proofs.laws.times_go_on.Goals as goal

pub returns-clause-next : goal.returns-clause-next
returns-clause-next c = λ rs r. times_next [] rs r
