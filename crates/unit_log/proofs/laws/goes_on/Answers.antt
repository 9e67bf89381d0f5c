use Rattle.unit_log.specs.Laws.{goes_on}
use Rattle.unit_log.proofs.laws.goes_on.Goals as goal

pub returns : goal.returns
returns c = goes_on
