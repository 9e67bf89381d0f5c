use Rattle.jitter_timers.proofs.TestLemmas.{low-pop}
use Rattle.jitter_timers.proofs.tests.pop_low.Goals as goal

pub returns : goal.returns
returns g c = low-pop c.args.queue.now c.pop.new.self c.pop.result c.pop.ensures.after c.requires
