use Rattle.timeline.specs.Times.{at_times}
use Rattle.pcap_file.specs.Capture.{capture_of}
use Rattle.replay_model.specs.Inputs.{inputs, all_inputs}
use Rattle.replay_sound.proofs.laws.lanes_of_scripts_are_runs.Goals as goal

pub returns-clause-part : goal.returns-clause-part
returns-clause-part c = λ x bytes rs more script small is.
    c.lanes_of_replays_are_runs.ensures.part x (inputs x.items (at_times rs)) script
    (c.captures_make_replays.ensures.part x bytes rs more script small is)

pub returns-clause-whole : goal.returns-clause-whole
returns-clause-whole c = λ x bytes script small.
    c.lanes_of_replays_are_runs.ensures.whole x (all_inputs x.items (at_times (capture_of bytes).records)) script
    (c.captures_make_replays.ensures.whole x bytes script small)
