use Rattle.jitter_model.proofs.Chain.{least_from_above, least_from_le, least_from_before, least_from_is}
use Rattle.jitter_model.proofs.laws.searches_find_the_least.Goals as goal

pub returns : goal.returns
returns c = record {
  from = least_from_above;
  to = least_from_le;
  before = least_from_before;
  is = least_from_is;
}
