use Rattle.std.proofs.Common.{List, sym, subst}
use Rattle.depay.specs.Joining.{Joining}
use Rattle.unit_log.specs.Standing.{WereGiven}
use Rattle.unit_log.proofs.Lanes.{pushed}
use Rattle.unit_log.proofs.log.open_lanes.Goals as goal

pub lanes-preserved : goal.lanes-preserved
lanes-preserved c = λ calls were.
    subst (λ (xs : List Joining). WereGiven c.args.format calls xs) (sym c.in_ok-push.ensures.items)
    (pushed c.args.format calls c.lanes.lanes.items c.in_ok-new.field-0 c.in_ok-new.ensures
    (c.lanes.invariant calls were))
