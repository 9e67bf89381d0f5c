use Rattle.std.proofs.Common.{List, map}
use Rattle.script_lang.specs.Contents.{Contents}
use Rattle.front_model.specs.Moves.{Move}
use Rattle.rtp_session.specs.Answers.{told}
use Rattle.rtp_front.specs.Notes.{TakesNotes}
use Rattle.rtp_front.specs.Standing.{IsLeftBy}
use Rattle.rtp_front.proofs.notes.take_notes.Given as goal

abbrev pub invariant-loop-note : goal.invariant-loop-note
invariant-loop-note l = (c : Contents) (older : List Move)
    → IsLeftBy c older l.initial.streams
    → TakesNotes c l.time l.session older (map told l.yielded)
    l.initial.steps.items l.steps.items l.streams
