use Rattle.source_table.proofs.Consecutive.{run_length}
use Rattle.source_table.proofs.laws.counts_consecutive.Goals as goal

pub returns : goal.returns
returns c = run_length
