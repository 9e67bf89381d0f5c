use Rattle.std.proofs.Common.{true}
use Rattle.rtp_io.proofs.memory.MemoryFiles.left.Goals as goal

pub returns : goal.returns
returns c = c.left.ensures.left (λ _. true)
