use Rattle.std.proofs.Common.{◌≡◌, ◌++◌, List, take, map}
use Rattle.script_lang.specs.Contents.{Contents}
use Rattle.front_model.specs.Moves.{Move}
use Rattle.front_model.specs.Notes.{Gone}
use Rattle.front_model.specs.Steps.{notes_steps}
use Rattle.rtp_front.proofs.reports.tell_report.Given as goal

abbrev pub invariant-loop-ssrc : goal.invariant-loop-ssrc
invariant-loop-ssrc l = (c : Contents) (older : List Move)
    → l.steps.items ≡ l.initial.steps.items
    ++ notes_steps c l.time older l.session (map Gone (take l.ssrc-index l.ssrc-items))
