use Rattle.std.proofs.Common.{ℕ, suc, ◌≡◌, ◌<◌, ◌+◌, ◌∙◌, subst, length, arith}
use Rattle.std.specs.Prelude.{set}
use Rattle.replay_model.specs.Acting.{all_acted}
use Rattle.lane_core.specs.AllLanes.{LanesRest}
use Rattle.lane_core.proofs.Placing.{same_then, same_set, wakes_stay, lanes_meet}
use Rattle.lane_core.proofs.lanes.control.Goals as goal

pub returns-in_err-control-clause-stays : goal.returns-in_err-control-clause-stays
returns-in_err-control-clause-stays c =
    let below : c.loop-i.i < length c.loop-i.lanes.items = omega (arith, c.loop-i-test.true, c.loop-i.invariant.end, c.loop-i.invariant.stays.count) in
    same_then c.args.lanes.now.items c.loop-i.lanes.items _ c.loop-i.invariant.stays (same_set c.loop-i.lanes.items c.loop-i.i c.index_mut.result.now c.control.new.self below c.index_mut.ensures.value c.control.ensures.stays)

pub returns-in_err-control-clause-wakes : goal.returns-in_err-control-clause-wakes
returns-in_err-control-clause-wakes c = λ k.
    let below : c.loop-i.i < length c.loop-i.lanes.items = omega (arith, c.loop-i-test.true, c.loop-i.invariant.end, c.loop-i.invariant.stays.count) in
    wakes_stay c.loop-i.lanes.items c.loop-i.i c.index_mut.result.now c.control.new.self below c.index_mut.ensures.value c.control.ensures.wake k
    ∙ c.loop-i.invariant.wakes k

pub loop-i-preserved : goal.loop-i-preserved
loop-i-preserved c =
    let below : c.loop-i.i < length c.loop-i.lanes.items = omega (arith, c.loop-i-test.true, c.loop-i.invariant.end, c.loop-i.invariant.stays.count) in
    let one_more : suc c.loop-i.i ≡ c.loop-i.i + 1 = omega arith in
    record {
      stays = same_then c.args.lanes.now.items c.loop-i.lanes.items _ c.loop-i.invariant.stays (same_set c.loop-i.lanes.items c.loop-i.i c.index_mut.result.now c.control.new.self below c.index_mut.ensures.value c.control.ensures.stays);
      wakes = λ k.
          wakes_stay c.loop-i.lanes.items c.loop-i.i c.index_mut.result.now c.control.new.self below c.index_mut.ensures.value c.control.ensures.wake k
          ∙ c.loop-i.invariant.wakes k;
      end = c.loop-i.invariant.end;
      run = λ o base resting tl spared h.
          subst (λ (n : ℕ). LanesRest o base resting (set c.loop-i.lanes.items c.loop-i.i c.control.new.self) c.control.new.lines (all_acted o c.args.item.now.time n c.args.item.now.action tl)) one_more
          (lanes_meet o base resting c.args.item.now c.loop-i.lanes.items c.loop-i.i c.index_mut.result.now c.control.new.self c.loop-i.lines c.control.new.lines _ below c.index_mut.ensures.value spared (λ _. c.control.ensures.wake)
          (c.loop-i.invariant.run o base resting tl spared h)
          (λ k. c.in_ok-control.ensures.stands o _ c.loop-i.i _ k));
    }

pub returns-clause-stands : goal.returns-clause-stands
returns-clause-stands c =
    λ o base resting tl spared h. let all : c.loop-i.i ≡ length c.args.lanes.now.items = omega (arith, c.loop-i.invariant.end, c.loop-i-test.false, c.loop-i.auto.i-end) in
    subst (λ (n : ℕ). LanesRest o base resting c.loop-i.lanes.items c.loop-i.lines (all_acted o c.args.item.now.time n c.args.item.now.action tl)) all (c.loop-i.invariant.run o base resting tl spared h)
