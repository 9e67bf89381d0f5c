use Rattle.front_model.proofs.Others.{untouched}
use Rattle.front_model.proofs.Owning.{own}
use Rattle.front_model.proofs.Closing.{closed}
use Rattle.front_model.proofs.Leaving.{names, alike}
use Rattle.front_model.proofs.laws.sources_stand_alone.Goals as goal

pub returns-clause-others : goal.returns-clause-others
returns-clause-others c = untouched

pub returns-clause-own : goal.returns-clause-own
returns-clause-own c = own

pub returns-clause-reports : goal.returns-clause-reports
returns-clause-reports c = closed

pub returns-clause-names : goal.returns-clause-names
returns-clause-names c = names

pub returns-clause-alike : goal.returns-clause-alike
returns-clause-alike c = alike
