use Rattle.std.proofs.Common.{◌≡◌, ◌∙◌, ◌∷◌, [], ◌++◌, List, map, sym, ap, subst}
use Rattle.std.specs.Prelude.{OnOk}
use Rattle.std.proofs.lemmas.Result.{on_ok_weaker}
use Rattle.front_model.specs.Moves.{Move}
use Rattle.front_model.specs.Notes.{Note, Releases}
use Rattle.front_model.specs.Probation.{kept_at}
use Rattle.rtp_session.specs.declared.answers.SessionOut.{SessionOut}
use Rattle.rtp_session.specs.Answers.{out_notes}
use Rattle.rtp_front.specs.Notes.{moves_behind, TakesNotes}
use Rattle.rtp_front.proofs.Telling.{one_taken, both_taken, held_taken, on_both}
use Rattle.rtp_front.proofs.notes.take_heard.Goals as goal

pub returns-in-Held : goal.returns-in-Held
returns-in-Held c = λ k older read stands.
    let p = kept_at c.args.time c.args.view.now in
    subst
    (λ (h : SessionOut). OnOk c.tell_held.result
    (TakesNotes k c.args.time c.args.session older
    (out_notes (kept_at c.args.time c.args.view.now) h)
    c.args.steps.now.items c.tell_held.new.steps.items c.args.streams.now))
    (sym c.in-Held.is)
    (on_ok_weaker c.tell_held.result
    (held_taken k c.args.time c.args.session older c.in-Held.broken.items p
    c.args.steps.now.items c.tell_held.new.steps.items c.args.streams.now stands)
    (c.tell_held.ensures k older))

pub returns-in_ok-release_all-in-Released : goal.returns-in_ok-release_all-in-Released
returns-in_ok-release_all-in-Released c = λ k older read stands.
    let n = c.in-Released in
    let passed : List Note = map Releases n.waited.items in
    let past : List Move = moves_behind c.args.session passed older in
    let before = c.in_ok-release_all-in-Released.ensures k older read stands in
    subst
    (λ (h : SessionOut). OnOk c.release.result
    (TakesNotes k c.args.time c.args.session older
    (out_notes (kept_at c.args.time c.args.view.now) h)
    c.args.steps.now.items c.release.new.steps.items c.release.new.self))
    (sym c.in-Released.is)
    (on_both c.release.result _ _ _
    (λ steps after.
    both_taken k c.args.time c.args.session older passed (Releases n.packet ∷ [])
    c.args.steps.now.items _ c.release.new.steps.items _ c.release.new.self before
    (one_taken k c.args.time c.args.session past (Releases n.packet) _ _ _ steps after))
    (c.release.ensures.steps k past read before.stands)
    (c.release.ensures.stands k past read before.stands))
