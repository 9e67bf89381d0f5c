use Rattle.std.proofs.Common.{◌≡◌, ◌∙◌, ◌∷◌, [], List, map, sym, ap, subst}
use Rattle.std.proofs.lemmas.Iterator.Adapters.{YieldsList-from_vec}
use Rattle.std.proofs.lemmas.Iterator.Consumers.{YieldsList-end}
use Rattle.std.proofs.lemmas.List.{map-append, map-id}
use Rattle.front_model.specs.Moves.{Move}
use Rattle.front_model.specs.Notes.{Note}
use Rattle.rtp_session.specs.declared.answers.SessionNote.{SessionNote}
use Rattle.rtp_session.specs.Answers.{told}
use Rattle.rtp_front.specs.Notes.{moves_behind, TakesNotes}
use Rattle.rtp_front.proofs.Telling.{both_taken}
use Rattle.rtp_front.proofs.notes.take_notes.Goals as goal

pub loop-note-preserved : goal.loop-note-preserved
loop-note-preserved c = λ k older stands.
    let note : SessionNote = c.in-Some.note in
    let passed : List Note = map told c.loop-note.yielded in
    let past : List Move = moves_behind c.args.session passed older in
    let before = c.loop-note.invariant k older stands in
    subst
    (λ (ns : List Note). TakesNotes k c.args.time c.args.session older ns c.args.steps.now.items
    c.take_note.new.steps.items c.take_note.new.streams)
    (sym (map-append told c.loop-note.yielded (note ∷ [])))
    (both_taken k c.args.time c.args.session older passed (told note ∷ []) _ _ _ _ _ before
    (c.in_ok-take_note.ensures k past before.stands))

pub returns : goal.returns
returns c = λ k older stands.
    let gives = c.into_iter-note-iterator.ensures.into_iter_gives in
    let end =
    YieldsList-end
    (YieldsList-from_vec {s = c.into_iter-note-iterator.result} c.args.notes.items gives.0 (gives.1 ∙ c.args.notes.ok.0))
    c.loop-note.yielded c.loop-note.note-iterator c.loop-note.yielded_by c.next.result
    c.next.new.self c.in-None.is c.next.ensures.steps
    in
    subst
    (λ (l : List SessionNote). TakesNotes k c.args.time c.args.session older (map told l)
    c.args.steps.now.items c.loop-note.steps.items c.loop-note.streams)
    (sym (map-id c.loop-note.yielded) ∙ end.0)
    (c.loop-note.invariant k older stands)
