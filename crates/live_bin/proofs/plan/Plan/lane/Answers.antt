use Rattle.std.proofs.Math.Logic.{∥∥₁_map}
use Rattle.live_bin.proofs.Lookups.{lane_right}
use Rattle.live_bin.proofs.plan.Plan.lane.Goals as goal

pub returns-clause-right : goal.returns-clause-right
returns-clause-right c =
    ∥∥₁_map c.args.self.now.right (λ r. lane_right c.args.self.now.lanes c.args.number c.at.result.now r c.at.ensures)
