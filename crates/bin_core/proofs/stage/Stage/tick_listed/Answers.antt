use Rattle.std.proofs.Common.{ℕ, ◌≡◌, ◌+◌, ◌∙◌, refl, length, arith, rules}
use Rattle.std.specs.Vec.{vec_len}
use Rattle.bin_core.proofs.Owing.{stays_then}
use Rattle.bin_core.proofs.Ticking.{ticks_none, ticks_to, ticks_yes, ticks_all}
use Rattle.bin_core.proofs.stage.Stage.tick_listed.Goals as goal

pub loop-number-init : goal.loop-number-init
loop-number-init c = record {
  ticked = ticks_to c.lanes_stand_beside.ensures c.args.time 0 c.next_listed-number.result c.len-end.result c.args.touched.now c.args.self.now c.args.self.now c.args.lines.now c.args.lines.now c.next_listed-number.ensures
      (ticks_none c.lanes_stand_beside.ensures c.args.time c.args.touched.now c.args.self.now c.args.lines.now);
  count = refl;
  stays = λ n k. k;
  within = c.next_listed-number.ensures.within;
  listed = c.next_listed-number.ensures.listed;
}

pub tick-requires-clause-lane : goal.tick-requires-clause-lane
tick-requires-clause-lane c =
    let same : vec_len c.args.self.now.lanes ≡ length c.args.self.now.lanes.items = search rules in
    omega (arith, c.loop-number-test.true, c.len-end.ensures, c.loop-number.invariant.count, same)

pub tick-requires-clause-rests : goal.tick-requires-clause-rests
tick-requires-clause-rests c = (c.requires.rests.0, c.loop-number.invariant.stays c.requires.rests.0 c.requires.rests.1)

pub loop-number-preserved : goal.loop-number-preserved
loop-number-preserved c =
    let j : ℕ = c.loop-number.number + 1 in
    let found = c.next_listed-number-in-loop-number.ensures in
    record {
      ticked = ticks_to c.lanes_stand_beside.ensures c.args.time j c.next_listed-number-in-loop-number.result c.len-end.result c.args.touched.now c.args.self.now c.tick.new.self c.args.lines.now c.tick.new.lines found
          (ticks_yes c.timelines_keep.ensures c.lanes_stand_beside.ensures c.args.time c.loop-number.number j c.args.touched.now c.args.self.now c.loop-number.self c.tick.new.self c.args.lines.now c.loop-number.lines c.tick.new.lines refl
          (c.loop-number.invariant.listed c.loop-number-test.true) c.in_ok-tick.ensures.stands c.loop-number.invariant.ticked);
      count = c.tick.ensures.same.count ∙ c.loop-number.invariant.count;
      stays = stays_then c.args.self.now c.loop-number.self c.tick.new.self c.loop-number.invariant.stays c.in_ok-tick.ensures.rests;
      within = found.within;
      listed = found.listed;
    }

pub loop-number-smaller : goal.loop-number-smaller
loop-number-smaller c = omega (arith, c.loop-number-test.true, c.next_listed-number-in-loop-number.ensures.onward)

pub returns-clause-ticks : goal.returns-clause-ticks
returns-clause-ticks c =
    let same : vec_len c.args.self.now.lanes ≡ length c.args.self.now.lanes.items = search rules in
    ticks_all c.lanes_stand_beside.ensures c.args.time c.loop-number.number c.args.touched.now c.args.self.now c.loop-number.self c.args.lines.now c.loop-number.lines
    (omega (arith, c.loop-number-test.false, c.loop-number.invariant.within, c.len-end.ensures, same)) c.loop-number.invariant.count c.loop-number.invariant.ticked

pub returns-clause-rests : goal.returns-clause-rests
returns-clause-rests c = c.loop-number.invariant.stays
