use Rattle.jitter_timers.proofs.TestLemmas.{low-insert}
use Rattle.jitter_timers.proofs.tests.set_low.Goals as goal

pub returns : goal.returns
returns g c = low-insert c.args.queue.now c.set.new.self c.args.number c.args.time c.set.ensures.after c.requires.queue c.requires.number
