use Rattle.jitter_core.proofs.Asking.{first_wake_is, no_wake_is}
use Rattle.jitter_core.proofs.schedule.first_wake.Goals as goal

pub returns-in-None : goal.returns-in-None
returns-in-None c = no_wake_is c.replies_tell.ensures c.searches_find_the_least.ensures c.args.state.now c.args.timers.now.times c.requires.right c.requires.later c.in-None.ensures

pub returns-in-Some : goal.returns-in-Some
returns-in-Some c = first_wake_is c.replies_tell.ensures c.searches_find_the_least.ensures c.args.state.now c.args.timers.now.times c.in-Some.time c.in-Some.field-0-1 c.requires.right c.requires.later c.in-Some.ensures
