use Rattle.bin_core.proofs.Waking.{low_room}
use Rattle.bin_core.proofs.wakes.Wakes.change.Goals as goal

pub set_timer-requires-clause-room : goal.set_timer-requires-clause-room
set_timer-requires-clause-room c = low_room c.args.self.now.timers c.args.lane c.args.self.now.room c.requires.lane c.args.self.now.low
