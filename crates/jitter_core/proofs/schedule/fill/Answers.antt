use Rattle.std.proofs.Common.{◌+◌, ◌≤◌, arith}
use Rattle.jitter_core.proofs.Filling.{fill_right}
use Rattle.jitter_core.proofs.Following.{IsReady, ready_room}
use Rattle.jitter_core.proofs.schedule.fill.Goals as goal

pub reschedule-requires-clause-room : goal.reschedule-requires-clause-room
reschedule-requires-clause-room g c =
    let h = c.requires.others in
    ready_room c.args.state.now c.args.timers.now c.args.number 8192 c.requires.bounded
    (record { room = c.requires.room; few = h.few; within = h.within }) h.from (omega (arith, h.to))

pub returns-clause-right : goal.returns-clause-right
returns-clause-right g c =
    fill_right c.args.state.now c.args.timers.now c.reschedule.new.timers c.args.number
    c.requires.others c.reschedule.ensures.after
