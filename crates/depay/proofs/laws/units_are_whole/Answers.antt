use Rattle.depay.proofs.Lawful.{units_are_whole}
use Rattle.depay.proofs.laws.units_are_whole.Goals as goal

pub returns : goal.returns
returns c = units_are_whole
