-- What a capture brings by itself: the plan of a run on threads, which knows no report times and no
-- requests.
use Rattle.std.specs.Prelude.{List, map, reverse}
use Rattle.pcap_file.specs.Capture.{Record}
use Rattle.script_lang.specs.Contents.{Contents}
use Rattle.timeline.specs.Times.{Timed, at_times}
use Rattle.front_model.specs.declared.Step.{Step}
use Rattle.front_model.specs.Events.{FrontEvent, Came}
use Rattle.front_model.specs.Steps.{all_steps}

abbrev pub coming : Timed → FrontEvent
coming r = Came r.time r.captured

-- a capture's records at their times, the newest first
abbrev pub captured : List Record → List FrontEvent
captured records = reverse (map coming (at_times records))

-- its steps, the first one first
abbrev pub plan : Contents → List Record → List Step
plan c records = all_steps c (captured records)
