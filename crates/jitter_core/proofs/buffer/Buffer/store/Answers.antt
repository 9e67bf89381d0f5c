use Rattle.jitter_core.proofs.Judging.{held_of}
use Rattle.jitter_core.proofs.buffer.Buffer.store.Goals as goal

pub returns : goal.returns
returns c = λ h st n. held_of c.args.self.now.state h n st
