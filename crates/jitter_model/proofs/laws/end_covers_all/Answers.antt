use Rattle.jitter_model.proofs.Ending.{end_covers}
use Rattle.jitter_model.proofs.laws.end_covers_all.Goals as goal

pub returns : goal.returns
returns c = end_covers
