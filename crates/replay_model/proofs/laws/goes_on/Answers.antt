use Rattle.replay_model.proofs.Growing.{past, input, part, whole}
use Rattle.replay_model.proofs.laws.goes_on.Goals as goal

pub returns-clause-past : goal.returns-clause-past
returns-clause-past c = past

pub returns-clause-input : goal.returns-clause-input
returns-clause-input c = input

pub returns-clause-part : goal.returns-clause-part
returns-clause-part c = part

pub returns-clause-whole : goal.returns-clause-whole
returns-clause-whole c = whole
