use Rattle.replay_ranges.proofs.Waiting.{few_wait}
use Rattle.replay_ranges.proofs.Stepping.{are_few}
use Rattle.replay_ranges.proofs.laws.records_give_few.Goals as goal

pub returns : goal.returns
returns c = are_few (few_wait c.sources_stand_alone.ensures.others c.sources_stand_alone.ensures.reports)
