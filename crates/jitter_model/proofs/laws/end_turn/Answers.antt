use Rattle.jitter_model.proofs.Telling.{at_end}
use Rattle.jitter_model.proofs.laws.end_turn.Goals as goal

pub returns-clause-outside : goal.returns-clause-outside
returns-clause-outside c = λ s h is. (at_end s h is).0

pub returns-clause-ended : goal.returns-clause-ended
returns-clause-ended c = λ s h is. (at_end s h is).1

pub returns-clause-once : goal.returns-clause-once
returns-clause-once c = λ s h is. (at_end s h is).2
