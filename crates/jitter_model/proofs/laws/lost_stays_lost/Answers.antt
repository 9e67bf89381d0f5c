use Rattle.jitter_model.proofs.Losing.{stays_lost, lost_not_accepted, lost_not_given}
use Rattle.jitter_model.proofs.laws.lost_stays_lost.Goals as goal

pub returns-clause-among : goal.returns-clause-among
returns-clause-among c = λ s h n r l. (stays_lost s h n r l).not_accepted

pub returns-clause-accepted : goal.returns-clause-accepted
returns-clause-accepted c = lost_not_accepted

pub returns-clause-given : goal.returns-clause-given
returns-clause-given c = lost_not_given
