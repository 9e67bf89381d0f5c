use Rattle.source_table.proofs.Answering.{one_hearing, one_naming}
use Rattle.source_table.proofs.laws.tables_have_one_answer.Goals as goal

pub returns-clause-packet : goal.returns-clause-packet
returns-clause-packet c = one_hearing

pub returns-clause-name : goal.returns-clause-name
returns-clause-name c = one_naming
