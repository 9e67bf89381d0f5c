use Rattle.std.proofs.Common.{List, map}
use Rattle.script_lang.specs.Contents.{Contents}
use Rattle.front_model.specs.Moves.{Move}
use Rattle.front_model.specs.Notes.{Releases}
use Rattle.rtp_front.specs.Chosen.{IsReadOf}
use Rattle.rtp_front.specs.Notes.{TakesNotes}
use Rattle.rtp_front.specs.Standing.{IsLeftBy}
use Rattle.rtp_front.proofs.notes.release_all.Given as goal

abbrev pub invariant-loop-kept : goal.invariant-loop-kept
invariant-loop-kept l = (c : Contents) (older : List Move) → IsReadOf c l.choices
    → IsLeftBy c older l.initial.streams
    → TakesNotes c l.time l.session older (map Releases l.yielded)
    l.initial.steps.items l.steps.items l.streams
