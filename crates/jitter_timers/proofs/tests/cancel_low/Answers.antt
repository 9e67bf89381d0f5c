use Rattle.jitter_timers.proofs.TestLemmas.{low-remove}
use Rattle.jitter_timers.proofs.tests.cancel_low.Goals as goal

pub returns : goal.returns
returns g c = low-remove c.args.queue.now c.cancel.new.self c.args.number c.cancel.ensures.after c.requires
