use Rattle.std.proofs.Common.{◌≡◌, ◌∙◌, ◌++◌, [], ◌∷◌, sym, subst, List, rules}
use Rattle.std.proofs.lemmas.List.{append-nil, append_assoc, map-id}
use Rattle.std.proofs.lemmas.Iterator.Adapters.{YieldsList-from_vec}
use Rattle.std.proofs.lemmas.Iterator.Consumers.{YieldsList-end}
use Rattle.front_model.specs.declared.Step.{Step}
use Rattle.live_plan.specs.Drafts.{AreDrafts}
use Rattle.live_plan.proofs.draft.place_all.Goals as goal

pub loop-step-init : goal.loop-step-init
loop-step-init c = λ before h.
    subst (λ (xs : List Step). AreDrafts xs c.args.drafts.now.items) (sym (append-nil before)) h

pub loop-step-preserved : goal.loop-step-preserved
loop-step-preserved c = λ before h.
    subst (λ (xs : List Step). AreDrafts xs c.place.new.drafts.items) (append_assoc before c.loop-step.yielded (c.in-Some.step ∷ []))
    (c.in_ok-place.ensures (before ++ c.loop-step.yielded) (c.loop-step.invariant before h))

pub returns : goal.returns
returns c = λ before h.
    let all : c.loop-step.yielded ≡ c.args.steps.items =
    sym (map-id c.loop-step.yielded) ∙ (YieldsList-end (YieldsList-from_vec {s = c.into_iter-step-iterator.result} c.args.steps.items (search rules) (search rules)) c.loop-step.yielded c.loop-step.step-iterator c.loop-step.yielded_by c.next.result c.next.new.self c.in-None.is c.next.ensures.steps).0 in
    subst (λ (xs : List Step). AreDrafts (before ++ xs) c.loop-step.drafts.items) all (c.loop-step.invariant before h)
