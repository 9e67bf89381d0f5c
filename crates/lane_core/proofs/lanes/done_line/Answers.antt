use Rattle.std.proofs.Common.{◌≤◌, ◌^◌, subst, arith}
use Rattle.lane_core.specs.declared.lane.Lane.{Lane}
use Rattle.lane_core.specs.AllLanes.{out_of, lost_of, refused_of}
use Rattle.lane_core.proofs.Totals.{has_room}
use Rattle.lane_core.proofs.Summing.{More, one_more}
use Rattle.lane_core.proofs.lanes.done_line.Goals as goal

pub overflow_add-out : goal.overflow_add-out
overflow_add-out c =
    let more : More out_of c.args.lanes.now c.loop-i.i c.loop-i.out _ = one_more out_of c.args.lanes.now c.loop-i.i c.loop-i.out c.index-lanes-i.result c.loop-i-test.true c.requires
    (subst (λ (l : Lane). l.counts.out ≤ 2 ^ 44) c.index-lanes-i.is (has_room (record { window = c.accepted_in_window.ensures.window; packet = c.covers_from_next.ensures.packet; loss = c.covers_from_next.ensures.loss }) c.index-lanes-i.result.buffer c.index-lanes-i.result.counts c.index-lanes-i.result.counted).out)
    c.loop-i.invariant.out c.loop-i.invariant.out_small in
    omega (arith, more.small)

pub overflow_add-lost : goal.overflow_add-lost
overflow_add-lost c =
    let more : More lost_of c.args.lanes.now c.loop-i.i c.loop-i.lost _ = one_more lost_of c.args.lanes.now c.loop-i.i c.loop-i.lost c.index-lanes-i.result c.loop-i-test.true c.requires
    (subst (λ (l : Lane). l.counts.lost ≤ 2 ^ 44) c.index-lanes-i.is (has_room (record { window = c.accepted_in_window.ensures.window; packet = c.covers_from_next.ensures.packet; loss = c.covers_from_next.ensures.loss }) c.index-lanes-i.result.buffer c.index-lanes-i.result.counts c.index-lanes-i.result.counted).lost)
    c.loop-i.invariant.lost c.loop-i.invariant.lost_small in
    omega (arith, more.small)

pub overflow_add-refused : goal.overflow_add-refused
overflow_add-refused c =
    let more : More refused_of c.args.lanes.now c.loop-i.i c.loop-i.refused _ = one_more refused_of c.args.lanes.now c.loop-i.i c.loop-i.refused c.index-lanes-i.result c.loop-i-test.true c.requires
    (subst (λ (l : Lane). l.counts.refused ≤ 2 ^ 44) c.index-lanes-i.is (has_room (record { window = c.accepted_in_window.ensures.window; packet = c.covers_from_next.ensures.packet; loss = c.covers_from_next.ensures.loss }) c.index-lanes-i.result.buffer c.index-lanes-i.result.counts c.index-lanes-i.result.counted).refused)
    c.loop-i.invariant.refused c.loop-i.invariant.refused_small in
    omega (arith, more.small)

pub loop-i-preserved : goal.loop-i-preserved
loop-i-preserved c =
    let out_more : More out_of c.args.lanes.now c.loop-i.i c.loop-i.out _ = one_more out_of c.args.lanes.now c.loop-i.i c.loop-i.out c.index-lanes-i.result c.loop-i-test.true c.requires
    (subst (λ (l : Lane). l.counts.out ≤ 2 ^ 44) c.index-lanes-i.is (has_room (record { window = c.accepted_in_window.ensures.window; packet = c.covers_from_next.ensures.packet; loss = c.covers_from_next.ensures.loss }) c.index-lanes-i.result.buffer c.index-lanes-i.result.counts c.index-lanes-i.result.counted).out)
    c.loop-i.invariant.out c.loop-i.invariant.out_small in
    let lost_more : More lost_of c.args.lanes.now c.loop-i.i c.loop-i.lost _ = one_more lost_of c.args.lanes.now c.loop-i.i c.loop-i.lost c.index-lanes-i.result c.loop-i-test.true c.requires
    (subst (λ (l : Lane). l.counts.lost ≤ 2 ^ 44) c.index-lanes-i.is (has_room (record { window = c.accepted_in_window.ensures.window; packet = c.covers_from_next.ensures.packet; loss = c.covers_from_next.ensures.loss }) c.index-lanes-i.result.buffer c.index-lanes-i.result.counts c.index-lanes-i.result.counted).lost)
    c.loop-i.invariant.lost c.loop-i.invariant.lost_small in
    let refused_more : More refused_of c.args.lanes.now c.loop-i.i c.loop-i.refused _ = one_more refused_of c.args.lanes.now c.loop-i.i c.loop-i.refused c.index-lanes-i.result c.loop-i-test.true c.requires
    (subst (λ (l : Lane). l.counts.refused ≤ 2 ^ 44) c.index-lanes-i.is (has_room (record { window = c.accepted_in_window.ensures.window; packet = c.covers_from_next.ensures.packet; loss = c.covers_from_next.ensures.loss }) c.index-lanes-i.result.buffer c.index-lanes-i.result.counts c.index-lanes-i.result.counted).refused)
    c.loop-i.invariant.refused c.loop-i.invariant.refused_small in
    record { out = out_more.is; lost = lost_more.is; refused = refused_more.is; out_small = out_more.most; lost_small = lost_more.most; refused_small = refused_more.most }
