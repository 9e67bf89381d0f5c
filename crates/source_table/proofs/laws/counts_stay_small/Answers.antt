use Rattle.source_table.proofs.Limiting.{stay_in_range, fit_their_fields}
use Rattle.source_table.proofs.laws.counts_stay_small.Goals as goal

pub returns-clause-counts : goal.returns-clause-counts
returns-clause-counts c = stay_in_range

pub returns-clause-block : goal.returns-clause-block
returns-clause-block c = fit_their_fields
