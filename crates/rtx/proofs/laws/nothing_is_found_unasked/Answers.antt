use Rattle.rtx.proofs.Unasked.{unasked}
use Rattle.rtx.proofs.laws.nothing_is_found_unasked.Goals as goal

pub returns : goal.returns
returns c = unasked
