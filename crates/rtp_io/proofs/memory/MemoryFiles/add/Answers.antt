use Rattle.std.proofs.Common.{true}
use Rattle.rtp_io.proofs.Shelves.{on_ok, on_err}
use Rattle.rtp_io.proofs.memory.MemoryFiles.add.Goals as goal

pub returns-clause-ok : goal.returns-clause-ok
returns-clause-ok c = on_ok c.add.result _ _ (λ all. all (λ _. true)) c.add.ensures.ok

pub returns-clause-err : goal.returns-clause-err
returns-clause-err c = on_err c.add.result _ _ (λ all. all (λ _. true)) c.add.ensures.err
