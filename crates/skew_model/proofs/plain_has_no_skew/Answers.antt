use Rattle.skew_model.proofs.Plain.{no_skew}
use Rattle.skew_model.proofs.plain_has_no_skew.Goals as goal

pub returns : goal.returns
returns c = no_skew
