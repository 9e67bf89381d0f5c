use Rattle.generated_capture.proofs.Counting.{records_le}
use Rattle.generated_capture.proofs.capture.Capture.new.Goals as goal

pub returns-clause-few : goal.returns-clause-few
returns-clause-few c = records_le c.args.first 24 _ c.new.result c.new.ensures.few
