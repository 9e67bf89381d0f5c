use Rattle.rtx.proofs.Single.{one_restoring}
use Rattle.rtx.proofs.laws.restoring_has_one_answer.Goals as goal

pub returns : goal.returns
returns c = one_restoring
