use Rattle.generated_capture.proofs.Counting.{merged_le}
use Rattle.generated_capture.proofs.deliveries.Deliveries.new.Goals as goal

pub returns-clause-few : goal.returns-clause-few
returns-clause-few c = merged_le c.args.count c.new.result c.new-2.result c.new.ensures c.new-2.ensures
