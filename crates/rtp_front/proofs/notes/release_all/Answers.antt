use Rattle.std.proofs.Common.{◌≡◌, ◌∙◌, ◌∷◌, [], List, map, sym, ap, subst}
use Rattle.std.proofs.lemmas.Iterator.Adapters.{YieldsList-from_vec}
use Rattle.std.proofs.lemmas.Iterator.Consumers.{YieldsList-end}
use Rattle.std.proofs.lemmas.List.{map-append, map-id}
use Rattle.front_model.specs.Moves.{Move}
use Rattle.front_model.specs.Notes.{Note, Releases}
use Rattle.front_model.specs.Probation.{Kept}
use Rattle.rtp_front.specs.Notes.{moves_behind, TakesNotes}
use Rattle.rtp_front.proofs.Telling.{one_taken, both_taken}
use Rattle.rtp_front.proofs.notes.release_all.Goals as goal

pub loop-kept-preserved : goal.loop-kept-preserved
loop-kept-preserved c = λ k older read stands.
    let kept : Kept = c.in-Some.kept in
    let passed : List Note = map Releases c.loop-kept.yielded in
    let past : List Move = moves_behind c.args.session passed older in
    let before = c.loop-kept.invariant k older read stands in
    subst
    (λ (ns : List Note). TakesNotes k c.args.time c.args.session older ns c.args.steps.now.items
    c.release.new.steps.items c.release.new.self)
    (sym (map-append Releases c.loop-kept.yielded (kept ∷ [])))
    (both_taken k c.args.time c.args.session older passed (Releases kept ∷ []) _ _ _ _ _ before
    (one_taken k c.args.time c.args.session past (Releases kept) _ _ _
    (c.in_ok-release.ensures.steps k past read before.stands)
    (c.in_ok-release.ensures.stands k past read before.stands)))

pub returns : goal.returns
returns c = λ k older read stands.
    let gives = c.into_iter-kept-iterator.ensures.into_iter_gives in
    let end =
    YieldsList-end
    (YieldsList-from_vec {s = c.into_iter-kept-iterator.result} c.args.waited.items gives.0 (gives.1 ∙ c.args.waited.ok.0))
    c.loop-kept.yielded c.loop-kept.kept-iterator c.loop-kept.yielded_by c.next.result
    c.next.new.self c.in-None.is c.next.ensures.steps
    in
    subst
    (λ (l : List Kept). TakesNotes k c.args.time c.args.session older (map Releases l)
    c.args.steps.now.items c.loop-kept.steps.items c.loop-kept.streams)
    (sym (map-id c.loop-kept.yielded) ∙ end.0)
    (c.loop-kept.invariant k older read stands)
