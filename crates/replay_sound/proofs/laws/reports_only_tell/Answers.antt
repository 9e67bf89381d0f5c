use Rattle.replay_sound.proofs.Walking.{reports_tell}
use Rattle.replay_sound.proofs.laws.reports_only_tell.Goals as goal

pub returns : goal.returns
returns c = reports_tell
