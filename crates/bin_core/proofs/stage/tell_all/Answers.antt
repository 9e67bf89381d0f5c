use Rattle.std.proofs.Common.{◌≡◌, ◌∙◌, refl, sym, ap, subst, List, ◌∷◌, rules}
use Rattle.std.specs.Vec.{vec_len}
use Rattle.std.specs.Vec.Iter.{drain_items}
use Rattle.front_model.specs.declared.Step.{Step}
use Rattle.front_model.specs.declared.Step.TheVariants as step
use Rattle.bin_core.specs.Stages.{AreQuiet, TellsAll}
use Rattle.bin_core.proofs.Marking.{tells_none, tells_more}
use Rattle.bin_core.proofs.Owing.{quiet_counts, quiet_behind, never_other, left_next, left_none, all_taken}
use Rattle.bin_core.proofs.stage.tell_all.Goals as goal

pub loop-step-init : goal.loop-step-init
loop-step-init c = (tells_none c.args.lines.now, refl, λ k. k)

pub loop-step-preserved : goal.loop-step-preserved
loop-step-preserved c =
    let first : drain_items c.into_iter-step-iterator.result ≡ c.args.steps.now.items =
    ap drain_items c.into_iter-step-iterator.ensures.into_iter_gives ∙ c.drain-step-items.ensures.rest ∙ all_taken c.args.steps.now.items (vec_len c.args.steps.now) (search rules) in
    let left : drain_items c.loop-step.step-iterator ≡ step.Tell c.in-Tell.line ∷ drain_items c.next.new.self = c.in-Some.ensures.steps.0 ∙ ap (λ (x : Step). x ∷ drain_items c.next.new.self) c.in-Tell.is in
    let quiet : ∥ AreQuiet (step.Tell c.in-Tell.line ∷ drain_items c.next.new.self) ∥₁ =
    subst (λ (xs : List Step). ∥ AreQuiet xs ∥₁) left (c.loop-step.invariant.2 (subst (λ (xs : List Step). ∥ AreQuiet xs ∥₁) (sym first) c.requires)) in (
      tells_more c.loop-step.yielded _ c.in-Some.step c.in-Tell.line c.args.lines.now c.loop-step.lines c.push.new.self refl c.in-Tell.is (quiet_counts c.in-Tell.line (drain_items c.next.new.self) quiet) c.in_ok-push.ensures.ok c.loop-step.invariant.0,
      left_next c.loop-step.yielded (drain_items c.next.new.self) (drain_items c.into_iter-step-iterator.result) (drain_items c.loop-step.step-iterator) c.in-Some.step c.loop-step.invariant.1 c.in-Some.ensures.steps.0,
      λ k. quiet_behind c.in-Tell.line (drain_items c.next.new.self) quiet,
    )

pub unreachable-requires : goal.unreachable-requires
unreachable-requires c =
    let first : drain_items c.into_iter-step-iterator.result ≡ c.args.steps.now.items =
    ap drain_items c.into_iter-step-iterator.ensures.into_iter_gives ∙ c.drain-step-items.ensures.rest ∙ all_taken c.args.steps.now.items (vec_len c.args.steps.now) (search rules) in
    let quiet : ∥ AreQuiet (c.in-Some.step ∷ drain_items c.next.new.self) ∥₁ =
    subst (λ (xs : List Step). ∥ AreQuiet xs ∥₁) c.in-Some.ensures.steps.0 (c.loop-step.invariant.2 (subst (λ (xs : List Step). ∥ AreQuiet xs ∥₁) (sym first) c.requires)) in
    never_other c.in-Some.step (drain_items c.next.new.self) c.in_default.not-Tell quiet

pub returns : goal.returns
returns c =
    let first : drain_items c.into_iter-step-iterator.result ≡ c.args.steps.now.items =
    ap drain_items c.into_iter-step-iterator.ensures.into_iter_gives ∙ c.drain-step-items.ensures.rest ∙ all_taken c.args.steps.now.items (vec_len c.args.steps.now) (search rules) in
    let all : c.loop-step.yielded ≡ c.args.steps.now.items =
    left_none c.loop-step.yielded (drain_items c.into_iter-step-iterator.result) (drain_items c.loop-step.step-iterator) c.loop-step.invariant.1 c.in-None.ensures.steps.0 ∙ first in
    subst (λ (xs : List Step). TellsAll xs c.args.lines.now c.loop-step.lines) all c.loop-step.invariant.0
