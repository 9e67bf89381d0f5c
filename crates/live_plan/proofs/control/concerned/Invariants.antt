use Rattle.std.proofs.Common.{◌≡◌, take}
use Rattle.std.specs.Prelude.{flat_map}
use Rattle.live_plan.specs.Courses.{concerned_by}
use Rattle.live_plan.proofs.control.concerned.Given as goal

abbrev pub invariant-loop-item : goal.invariant-loop-item
invariant-loop-item l = l.sessions.items ≡ flat_map concerned_by (take l.item-index l.items)
