use Rattle.source_table.proofs.Isolation.{isolation, named_if_kept}
use Rattle.source_table.proofs.laws.isolated.Goals as goal

pub returns-clause-told : goal.returns-clause-told
returns-clause-told c = isolation

pub returns-clause-names : goal.returns-clause-names
returns-clause-names c = named_if_kept
