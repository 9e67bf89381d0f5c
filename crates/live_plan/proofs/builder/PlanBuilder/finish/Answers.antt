use Rattle.std.proofs.Common.{ap, ◌∙◌}
use Rattle.std.specs.Prelude.{flat_map}
use Rattle.script_lang.specs.Contents.{Contents}
use Rattle.live_plan.specs.Courses.{concerned_by}
use Rattle.front_model.specs.Plan.{captured}
use Rattle.live_plan.proofs.Planning.{finished_lanes}
use Rattle.live_plan.proofs.builder.PlanBuilder.finish.Goals as goal

pub returns-clause-plan : goal.returns-clause-plan
returns-clause-plan c = λ records h.
    let made = c.in_ok-lanes.ensures (captured records) h.front in
    let are = finished_lanes c.args.script.now records c.args.self.drafts.items h.drafts in
    record { records_are = c.in_ok-plan.ensures.records ∙ c.taken-records.ensures ∙ h.counted; lanes_are = c.in_ok-plan.ensures.lanes ∙ made ∙ are }

pub returns-clause-course : goal.returns-clause-course
returns-clause-course c = λ records h. record { routes_are = h.routes; events_are = c.in_ok-events.ensures ∙ ap (flat_map concerned_by) c.as_slice.ensures.value ∙ ap (λ (x : Contents). flat_map concerned_by x.items) c.script.view_is }
