use Rattle.jitter_model.proofs.Covers.{consecutive}
use Rattle.jitter_model.proofs.laws.covers_in_order.Goals as goal

pub returns : goal.returns
returns c = consecutive
