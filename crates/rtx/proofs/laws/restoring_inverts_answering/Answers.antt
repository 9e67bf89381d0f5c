use Rattle.rtx.proofs.Inverse.{inverse}
use Rattle.rtx.proofs.laws.restoring_inverts_answering.Goals as goal

pub returns : goal.returns
returns c = inverse
