use Rattle.rtp_io.specs.Memory.{known}
use Rattle.rtp_io.proofs.sure.SureFiles.left.Goals as goal

pub returns : goal.returns
returns c = c.left.ensures.left (known c.args.self.now.shelf)
