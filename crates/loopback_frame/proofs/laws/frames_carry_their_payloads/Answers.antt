use Rattle.loopback_frame.proofs.Carrying.{carried}
use Rattle.loopback_frame.proofs.laws.frames_carry_their_payloads.Goals as goal

pub returns : goal.returns
returns c = carried
