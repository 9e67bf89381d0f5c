use Rattle.jitter_model.proofs.Ended.{idle_after_end}
use Rattle.jitter_model.proofs.laws.rests_after_the_end.Goals as goal

pub returns : goal.returns
returns c = idle_after_end
