use Rattle.std.proofs.Common.{◌≡◌, ◌∙◌, ℕ, ◌+◌, ◌<◌, ◌++◌, [], ◌∷◌, List, length, take, sym, ap, arith}
use Rattle.std.proofs.lemmas.List.{append_assoc, take_more}
use Rattle.std.proofs.lemmas.List.Elements.{filter_map-append}
use Rattle.front_model.specs.declared.Step.{Step}
use Rattle.live_bin.specs.declared.course.Route.{Route}
use Rattle.live_plan.specs.Courses.{route_of, routes}
use Rattle.live_plan.proofs.builder.note_routes.Goals as goal

pub loop-step-preserved : goal.loop-step-preserved
loop-step-preserved c =
    let xs = c.args.steps.now in
    let i = c.loop-step.step-index in
    let x = c.step-item.result in
    let before = c.args.noted.now.items in
    let within : i < length xs = omega arith in
    let next : take (i + 1) xs ≡ take i xs ++ x ∷ [] =
    take_more xs i x within ∙ ap (λ (y : Step). take i xs ++ y ∷ []) (sym c.step-item.is) in
    c.in_ok-note_route.ensures
    ∙ ap (λ (ys : List Route). ys ++ routes (x ∷ [])) c.loop-step.invariant
    ∙ append_assoc before (routes (take i xs)) (routes (x ∷ []))
    ∙ ap (λ (ys : List Route). before ++ ys)
    (sym (filter_map-append route_of (take i xs) (x ∷ [])) ∙ ap routes (sym next))
