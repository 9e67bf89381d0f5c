use Rattle.jitter_model.proofs.Covers.{covers}
use Rattle.jitter_model.proofs.Falling.{asked_in}
use Rattle.jitter_model.proofs.Giving.{given}
use Rattle.jitter_model.proofs.Judged.{says}
use Rattle.jitter_model.proofs.Losing.{missed}
use Rattle.jitter_model.proofs.Waking.{undue_later}
use Rattle.jitter_model.proofs.laws.replies_tell.Goals as goal

pub returns : goal.returns
returns c = record {
  verdicts = says;
  covers = covers;
  packets = given;
  losses = missed;
  requests = asked_in;
  undue = undue_later;
}
