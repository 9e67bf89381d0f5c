use Rattle.std.proofs.Common.{true}
use Rattle.rtp_io.proofs.memory.MemoryFiles.new.Goals as goal

pub returns-clause-bare : goal.returns-clause-bare
returns-clause-bare c = c.new.ensures.bare (λ _. true)
