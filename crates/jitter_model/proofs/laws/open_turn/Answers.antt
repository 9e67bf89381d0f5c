use Rattle.jitter_model.proofs.Telling.{open_flush}
use Rattle.jitter_model.proofs.laws.open_turn.Goals as goal

pub returns : goal.returns
returns c = open_flush
