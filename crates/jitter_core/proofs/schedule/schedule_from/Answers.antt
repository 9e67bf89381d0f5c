use Rattle.std.proofs.Common.{◌+◌, ◌≤◌, sym, arith, ◌∙◌}
use Rattle.jitter_core.proofs.Resetting.{few_within, resetting_set, resetting_skip, resetting_last}
use Rattle.jitter_core.proofs.schedule.schedule_from.Goals as goal

pub reschedule-requires-clause-few : goal.reschedule-requires-clause-few
reschedule-requires-clause-few g c =
    few_within c.args.state.now c.loop-number.timers.times c.requires.bounded
    c.loop-number.invariant.within

pub loop-number-preserved-then-not-has : goal.loop-number-preserved-then-not-has
loop-number-preserved-then-not-has g c =
    resetting_set c.args.state.now c.args.from c.loop-number.number c.args.steps.now
    c.loop-number.steps c.reschedule.new.steps c.loop-number.timers c.reschedule.new.timers
    c.requires.bounded (omega (arith, c.lowest.ensures.value, c.max-start.ensures, c.loop-number-test.true))
    (omega (arith, c.loop-number-test.true)) (sym c.has.ensures ∙ c.if-not-has.true)
    c.loop-number.invariant c.reschedule.ensures.after c.reschedule.ensures.quick

pub loop-number-preserved : goal.loop-number-preserved
loop-number-preserved g c =
    resetting_skip c.args.state.now c.args.from c.loop-number.number c.args.steps.now
    c.loop-number.steps c.loop-number.timers
    c.requires.bounded (omega (arith, c.lowest.ensures.value, c.max-start.ensures, c.loop-number-test.true))
    (omega (arith, c.loop-number-test.true)) (sym c.has.ensures ∙ c.if-not-has.false)
    c.loop-number.invariant

pub returns-clause-quick : goal.returns-clause-quick
returns-clause-quick g c =
    (resetting_last c.args.state.now c.args.from c.loop-number.number c.args.steps.now
    c.loop-number.steps c.max-start.result c.loop-number.timers c.requires.bounded
    (omega (arith, c.lowest.ensures.value, c.max-start.ensures)) (omega (arith, c.loop-number-test.false))
    c.loop-number.invariant).1
