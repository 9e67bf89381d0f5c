use Rattle.replay_sound.proofs.Replays.{part_replay, whole_replay}
use Rattle.replay_sound.proofs.laws.records_make_replays.Goals as goal

pub returns-clause-part : goal.returns-clause-part
returns-clause-part c = part_replay (record { part = c.all_come.ensures.part; whole = c.all_come.ensures.records })

pub returns-clause-whole : goal.returns-clause-whole
returns-clause-whole c = whole_replay (record { part = c.all_come.ensures.part; whole = c.all_come.ensures.records })
