use Rattle.std.proofs.Common.{◌≡◌, ◌++◌, List, take, map}
use Rattle.script_lang.specs.Contents.{Contents}
use Rattle.front_model.specs.Moves.{Move}
use Rattle.front_model.specs.Notes.{broken}
use Rattle.front_model.specs.Steps.{notes_steps}
use Rattle.rtp_front.proofs.notes.tell_held.Given as goal

abbrev pub invariant-loop-kept : goal.invariant-loop-kept
invariant-loop-kept l = (c : Contents) (older : List Move)
    → l.steps.items ≡ l.initial.steps.items
    ++ notes_steps c l.time older l.session (map broken (take l.kept-index l.kept-items))
