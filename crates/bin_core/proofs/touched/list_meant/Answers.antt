use Rattle.std.proofs.Common.{ℕ, ◌+◌, List, Vec, Global, ◌∙◌, ap, sym, subst, arith}
use Rattle.std.specs.Prelude.{◌≡◌, get_or}
use Rattle.replay_model.specs.Acting.{is_for}
use Rattle.lane_core.specs.declared.lane.Lane.{Lane}
use Rattle.bin_core.proofs.Marking.{Meant, meant_one, meant_not, get_any}
use Rattle.bin_core.proofs.touched.list_meant.Goals as goal
use Rattle.bin_core.proofs.touched.list_meant.Goals.{then-is_for_session+in_ok-push, else-is_for_session}

pub loop-lane-preserved : goal.loop-lane-preserved
loop-lane-preserved c = λ d.
    let here : c.is_for_session.result ≡ is_for c.args.action (get_or c.args.lanes.now c.loop-lane.lane d).session =
    c.is_for_session.ensures
    ∙ ap (λ (x : Lane). is_for c.args.action x.session) (get_any c.args.lanes.now c.loop-lane.lane c.index-lanes-lane.result d c.loop-lane-test.true) in
    elim c.if-is_for_session.branch [
      | then-is_for_session+in_ok-push w ↦
          meant_one c.loop-lane.touched.items c.if-is_for_session.touched.items c.loop-lane.lane (λ k. is_for c.args.action (get_or c.args.lanes.now k d).session)
          (sym here ∙ w.if-is_for_session.true) (ap (λ (v : Vec ℕ Global). v.items) w.touched-is ∙ w.in_ok-push.ensures.items) (c.loop-lane.invariant d)
      | else-is_for_session w ↦
          subst (λ (xs : List ℕ). Meant xs (c.loop-lane.lane + 1) (λ k. is_for c.args.action (get_or c.args.lanes.now k d).session)) (sym (ap (λ (v : Vec ℕ Global). v.items) w.touched-is))
          (meant_not c.loop-lane.touched.items c.loop-lane.lane (λ k. is_for c.args.action (get_or c.args.lanes.now k d).session) (sym here ∙ w.if-is_for_session.false) (c.loop-lane.invariant d))
    ]

pub returns : goal.returns
returns c = λ k d lt. (c.loop-lane.invariant d).before k (omega (arith, lt, c.loop-lane-test.false))
