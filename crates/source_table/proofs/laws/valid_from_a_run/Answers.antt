use Rattle.source_table.proofs.Validity.{valid_by_run, valid_from_run}
use Rattle.source_table.proofs.laws.valid_from_a_run.Goals as goal

pub returns-clause-kept : goal.returns-clause-kept
returns-clause-kept c = valid_by_run

pub returns-clause-answer : goal.returns-clause-answer
returns-clause-answer c = valid_from_run
