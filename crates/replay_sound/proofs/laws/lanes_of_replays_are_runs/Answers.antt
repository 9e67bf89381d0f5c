use Rattle.replay_sound.proofs.laws.lanes_of_replays_are_runs.Goals as goal

pub returns-clause-part : goal.returns-clause-part
returns-clause-part c = λ x xs script replay.
    c.lanes_are_runs.ensures.part x xs (c.scripts_are_sound.ensures x script) replay

pub returns-clause-whole : goal.returns-clause-whole
returns-clause-whole c = λ x xs script replay.
    c.lanes_are_runs.ensures.whole x xs (c.scripts_are_sound.ensures x script) replay
