use Rattle.rtp_io.specs.Memory.{known}
use Rattle.rtp_io.proofs.Shelves.{same_under, gives_under}
use Rattle.rtp_io.proofs.sure.SureFilesFiles.read.Goals as goal

pub returns-clause-same : goal.returns-clause-same
returns-clause-same c = same_under (known c.args.self.now.shelf) c.args.self.now.shelf c.give.new.self c.give.ensures.held (c.give.ensures.same (known c.args.self.now.shelf))

pub returns-clause-given : goal.returns-clause-given
returns-clause-given c = gives_under (known c.args.self.now.shelf) _ c.args.self.now.shelf c.give.new.self (c.give.ensures.gives (known c.args.self.now.shelf))
