use Rattle.jitter_model.proofs.Nearest.{retransmission}
use Rattle.jitter_model.proofs.laws.retransmissions_keep_their_number.Goals as goal

pub returns : goal.returns
returns c = retransmission
