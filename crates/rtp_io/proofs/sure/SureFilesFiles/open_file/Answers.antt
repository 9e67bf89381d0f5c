use Rattle.rtp_io.specs.Memory.{known}
use Rattle.rtp_io.proofs.Shelves.{same_under}
use Rattle.rtp_io.proofs.sure.SureFilesFiles.open_file.Goals as goal

pub returns-clause-same : goal.returns-clause-same
returns-clause-same c = same_under (known c.args.self.now.shelf) c.args.self.now.shelf c.open.new.self c.open.ensures.held (c.open.ensures.same (known c.args.self.now.shelf))

pub returns-clause-opened : goal.returns-clause-opened
returns-clause-opened c = c.open.ensures.opened c.if-open.true (known c.open.new.self)
