use Rattle.front_model.proofs.Closing.{removed}
use Rattle.front_model.proofs.laws.removed_sources_are_named.Goals as goal

pub returns : goal.returns
returns c = removed
