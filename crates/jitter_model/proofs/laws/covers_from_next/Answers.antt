use Rattle.jitter_model.proofs.Covers.{packet_is_next, loss_is_next}
use Rattle.jitter_model.proofs.laws.covers_from_next.Goals as goal

pub returns-clause-packet : goal.returns-clause-packet
returns-clause-packet c = packet_is_next

pub returns-clause-loss : goal.returns-clause-loss
returns-clause-loss c = loss_is_next
