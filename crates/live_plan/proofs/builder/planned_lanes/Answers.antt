use Rattle.std.proofs.lemmas.List.{map_push}
use Rattle.live_plan.specs.Taken.{finished}
use Rattle.live_plan.proofs.builder.planned_lanes.Goals as goal

pub loop-draft-preserved : goal.loop-draft-preserved
loop-draft-preserved c = λ events h.
    let pushed = c.in_ok-push.ensures.items in
    let so_far = c.loop-draft.invariant events h in
    let one = c.in_ok-planned_lane.ensures events h in
    let more = map_push (finished c.args.script.now events) c.loop-draft.yielded c.in-Some.draft in
    cc
