use Rattle.jitter_model.proofs.Bounds.{wakes_below}
use Rattle.jitter_model.proofs.laws.wakes_are_bounded.Goals as goal

pub returns : goal.returns
returns c = wakes_below
