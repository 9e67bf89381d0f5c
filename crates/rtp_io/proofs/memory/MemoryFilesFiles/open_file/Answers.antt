use Rattle.std.proofs.Common.{true}
use Rattle.rtp_io.proofs.memory.MemoryFilesFiles.open_file.Goals as goal

pub returns-then-is_to_fail-clause-same : goal.returns-then-is_to_fail-clause-same
returns-then-is_to_fail-clause-same c = c.close.ensures.same (λ _. true)

pub returns-then-is_to_fail-clause-closed : goal.returns-then-is_to_fail-clause-closed
returns-then-is_to_fail-clause-closed c = c.close.ensures.closed (λ _. true)

pub returns-then-open-clause-same : goal.returns-then-open-clause-same
returns-then-open-clause-same c = c.open.ensures.same (λ _. true)

pub returns-then-open-clause-opened : goal.returns-then-open-clause-opened
returns-then-open-clause-opened c = c.open.ensures.opened c.if-open.true (λ _. true)

pub returns-else-open-clause-same : goal.returns-else-open-clause-same
returns-else-open-clause-same c = c.open.ensures.same (λ _. true)

pub returns-else-open-clause-closed : goal.returns-else-open-clause-closed
returns-else-open-clause-closed c = c.open.ensures.closed c.if-open.false (λ _. true)
