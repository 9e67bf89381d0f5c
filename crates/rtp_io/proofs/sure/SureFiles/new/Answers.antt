use Rattle.rtp_io.specs.Memory.{known}
use Rattle.rtp_io.proofs.sure.SureFiles.new.Goals as goal

pub returns-clause-bare : goal.returns-clause-bare
returns-clause-bare c = c.new.ensures.bare (known c.new.result)
