use Rattle.std.proofs.Common.{refl, sym, ◌∙◌}
use Rattle.jitter_core.proofs.Asking.{request_is}
use Rattle.jitter_core.proofs.Retiming.{turn_without, output_timed}
use Rattle.jitter_core.proofs.turning.turn_on.Goals as goal

pub returns-in-None-clause-timed : goal.returns-in-None-clause-timed
returns-in-None-clause-timed g c =
    output_timed c.replies_tell.ensures c.searches_find_the_least.ensures c.args.state.now c.give_or_wait.new.state c.give_or_wait.result _ c.requires.bounded
    (turn_without c.args.state.now c.give_or_wait.result c.first_wake-wake.result c.if-state.false (sym c.in-None.ensures.value) c.first_wake-wake.ensures c.give_or_wait.ensures.value)
    (sym c.in-None.ensures.value) c.give_or_wait.ensures.does (c.in-None.ensures.room ∙ c.refresh.ensures.room) c.in-None.ensures.right (c.in-None.ensures.later refl)
    c.refresh.ensures.stale

pub returns-in-None-clause-timers : goal.returns-in-None-clause-timers
returns-in-None-clause-timers g c = λ _ n. request_is c.replies_tell.ensures c.searches_find_the_least.ensures c.args.state.now c.first_request.new.timers.times n c.in-None.ensures.right (c.in-None.ensures.later refl)
