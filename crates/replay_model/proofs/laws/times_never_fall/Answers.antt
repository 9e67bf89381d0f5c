use Rattle.std.specs.Prelude.{reverse}
use Rattle.replay_model.proofs.Ordering.{in_order, in_order_whole}
use Rattle.replay_model.proofs.laws.times_never_fall.Goals as goal

pub returns-clause-part : goal.returns-clause-part
returns-clause-part c = λ x xs h. in_order c.wakes_are_later.ensures x (reverse xs) h

pub returns-clause-whole : goal.returns-clause-whole
returns-clause-whole c = λ x xs h le. in_order_whole c.wakes_are_later.ensures x (reverse xs) h le
