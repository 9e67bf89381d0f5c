use Rattle.std.proofs.Common.{rules}
use Rattle.source_table.proofs.Standing.{begins_at}
use Rattle.source_table.proofs.table.SourceTable.new.Goals as goal

pub returns-clause-stands : goal.returns-clause-stands
returns-clause-stands c = begins_at _ c.args.own c.args.probation (search rules)
