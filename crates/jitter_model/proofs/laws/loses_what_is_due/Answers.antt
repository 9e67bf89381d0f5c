use Rattle.jitter_model.proofs.Losing.{at_a_loss}
use Rattle.jitter_model.proofs.laws.loses_what_is_due.Goals as goal

pub returns : goal.returns
returns c = at_a_loss
