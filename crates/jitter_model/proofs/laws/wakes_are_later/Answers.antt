use Rattle.jitter_model.proofs.Waking.{wake_later}
use Rattle.jitter_model.proofs.laws.wakes_are_later.Goals as goal

pub returns : goal.returns
returns c = wake_later
