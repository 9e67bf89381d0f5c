use Rattle.std.proofs.Common.{List, ap, sym, ◌∙◌, ◌++◌}
use Rattle.live_output.specs.declared.clocks.LaneClock.{LaneClock}
use Rattle.live_output.specs.Clocks.{clock_of}
use Rattle.live_output.proofs.Numbering.{from_more}
use Rattle.live_output.proofs.clocks.clocks.Goals as goal

pub loop-number-preserved : goal.loop-number-preserved
loop-number-preserved c =
    let h = c.index-histories-number.result in
    let one : List LaneClock = clock_of c.args.plan.now c.loop-number.number h in
    c.in_ok-add_clock.ensures
    ∙ ap (λ (l : List LaneClock). l ++ one) c.loop-number.invariant
    ∙ sym (from_more (clock_of c.args.plan.now) c.args.histories.now c.loop-number.number h
    c.loop-number-test.true c.index-histories-number.is)
