use Rattle.pcap_file.specs.Capture.{capture_of}
use Rattle.replay_sound.proofs.Captures.{capture_stamped}
use Rattle.replay_sound.proofs.Replays.{part_replay, whole_replay, front_stamped}
use Rattle.replay_sound.proofs.laws.captures_make_replays.Goals as goal

pub returns-clause-part : goal.returns-clause-part
returns-clause-part c = λ x bytes rs more script small is.
    part_replay (record { part = c.all_come.ensures.part; whole = c.all_come.ensures.records }) x rs script (front_stamped (capture_of bytes).records rs more is (capture_stamped bytes small))

pub returns-clause-whole : goal.returns-clause-whole
returns-clause-whole c = λ x bytes script small.
    whole_replay (record { part = c.all_come.ensures.part; whole = c.all_come.ensures.records }) x (capture_of bytes).records script (capture_stamped bytes small)
