use Rattle.rtx.proofs.Single.{one_remembering, one_answer}
use Rattle.rtx.proofs.laws.histories_have_one_answer.Goals as goal

pub returns-clause-remembered : goal.returns-clause-remembered
returns-clause-remembered c = one_remembering

pub returns-clause-answered : goal.returns-clause-answered
returns-clause-answered c = one_answer
