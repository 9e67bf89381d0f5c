use Rattle.replay_sound.proofs.Captures.{capture_stamped}
use Rattle.replay_sound.proofs.laws.captures_are_stamped.Goals as goal

pub returns : goal.returns
returns c = capture_stamped
