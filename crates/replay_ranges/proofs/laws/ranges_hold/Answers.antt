use Rattle.replay_ranges.proofs.Waiting.{few_wait}
use Rattle.replay_ranges.proofs.Stepping.{stay_in_range}
use Rattle.replay_ranges.proofs.laws.ranges_hold.Goals as goal

pub returns : goal.returns
returns c = stay_in_range (few_wait c.sources_stand_alone.ensures.others c.sources_stand_alone.ensures.reports)
