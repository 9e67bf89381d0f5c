use Rattle.jitter_model.proofs.Chain.{has-le}
use Rattle.jitter_model.proofs.Giving.{has-ge, is_some-found}
use Rattle.jitter_model.proofs.Numbered.{joined_run, opened_run, opened_numbered, tops, above_has}
use Rattle.jitter_model.proofs.laws.numbers_lie_between.Goals as goal

pub returns : goal.returns
returns c = record {
  joined_is = joined_run;
  opened_is = opened_run;
  opened_numbered = opened_numbered;
  tops = tops;
  from = has-ge;
  to = has-le;
  above = above_has;
  found_is = is_some-found;
}
