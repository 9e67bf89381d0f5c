use Rattle.std.proofs.Common.{ℕ, ◌+◌, List, Vec, Global, ◌∙◌, ap, sym, subst}
use Rattle.bin_core.proofs.Cases.{is_none}
use Rattle.bin_core.proofs.Marking.{Lists, lists_none, lists_one, lists_other, lists_all}
use Rattle.bin_core.proofs.touched.list_given.Goals as goal
use Rattle.bin_core.proofs.touched.list_given.Goals.{in-Some+in_ok-push, in_default}

pub loop-step-init : goal.loop-step-init
loop-step-init c = lists_none c.clear.new.self.items c.args.steps.now c.clear.ensures.items

pub loop-step-preserved : goal.loop-step-preserved
loop-step-preserved c =
    elim c.match-lane_given.branch [
      | in-Some+in_ok-push w ↦
          lists_one c.loop-step.touched.items c.match-lane_given.touched.items c.args.steps.now c.loop-step.step-index w.in-Some.lane c.step-item.result c.loop-step-test.true c.step-item.is
          (sym c.lane_given.ensures ∙ w.in-Some.is) (ap (λ (v : Vec ℕ Global). v.items) w.touched-is ∙ w.in_ok-push.ensures.items) c.loop-step.invariant
      | in_default w ↦
          subst (λ (xs : List ℕ). Lists xs c.args.steps.now (c.loop-step.step-index + 1)) (sym (ap (λ (v : Vec ℕ Global). v.items) w.touched-is))
          (lists_other c.loop-step.touched.items c.args.steps.now c.loop-step.step-index c.step-item.result c.loop-step-test.true c.step-item.is
          (sym c.lane_given.ensures ∙ is_none c.lane_given.result w.in_default.not-Some) c.loop-step.invariant)
    ]

pub returns : goal.returns
returns c = lists_all c.loop-step.touched.items c.args.steps.now c.loop-step.step-index c.loop-step-test.false c.loop-step.invariant
