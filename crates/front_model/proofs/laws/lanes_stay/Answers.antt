use Rattle.front_model.proofs.Staying.{stays, stays_at}
use Rattle.front_model.proofs.laws.lanes_stay.Goals as goal

pub returns-clause-moves : goal.returns-clause-moves
returns-clause-moves c = stays

pub returns-clause-events : goal.returns-clause-events
returns-clause-events c = stays_at
