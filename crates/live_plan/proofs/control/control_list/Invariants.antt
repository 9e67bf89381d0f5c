use Rattle.std.proofs.Common.{◌≡◌, take}
use Rattle.std.specs.Prelude.{flat_map}
use Rattle.live_plan.specs.Controls.{events_of}
use Rattle.live_plan.proofs.control.control_list.Given as goal

abbrev pub invariant-loop-item : goal.invariant-loop-item
invariant-loop-item l = l.events.items ≡ flat_map (events_of l.session) (take l.item-index l.items)
