use Rattle.std.proofs.Common.{◌≡◌, ◌∙◌, ◌++◌, ◌∷◌, [], ℕ, List, map, take, refl, sym, ap, arith}
use Rattle.std.proofs.lemmas.List.{take_more, take_all}
use Rattle.rtp_wire.specs.Packet.{Packet as View}
use Rattle.timeline.specs.declared.line.BinLine.TheVariants.{Drop, Hold}
use Rattle.timeline.specs.declared.line.Word.TheVariants.{Probation}
use Rattle.front_model.specs.declared.Step.{Step}
use Rattle.front_model.specs.declared.Step.TheVariants.{Tell}
use Rattle.front_model.specs.Probation.{Kept, kept_at}
use Rattle.front_model.specs.Notes.{broken, Holds}
use Rattle.front_model.specs.Steps.{notes_steps}
use Rattle.rtp_front.proofs.Telling.{one_told, last_told}
use Rattle.rtp_front.proofs.notes.tell_held.Goals as goal

pub loop-kept-preserved : goal.loop-kept-preserved
loop-kept-preserved c = λ k older.
    let xs : List Kept = c.as_slice-kept-items.result.now in
    let i : ℕ = c.loop-kept.kept-index in
    one_told c.args.session broken (λ (x : Kept). refl) k c.args.time older (take i xs)
    c.kept-item.result c.args.steps.now.items _ _ (c.loop-kept.invariant k older)
    (c.in_ok-tell_drop.ensures
    ∙ ap
    (λ (p : View). c.loop-kept.steps.items
    ++ Tell (Drop c.args.time c.args.session p.ssrc p.seq Probation) ∷ [])
    c.packet.ensures.value)
    ∙ ap
    (λ (l : List Kept). c.args.steps.now.items
    ++ notes_steps k c.args.time older c.args.session (map broken l))
    (ap (λ (x : Kept). take i xs ++ x ∷ []) c.kept-item.is
    ∙ sym (take_more xs i _ c.loop-kept-test.true))

pub returns : goal.returns
returns c = λ k older.
    let xs : List Kept = c.as_slice-kept-items.result.now in
    let i : ℕ = c.loop-kept.kept-index in
    let all : take i xs ≡ c.args.broken.items =
    take_all i xs c.loop-kept-test.false ∙ c.as_slice-kept-items.ensures.value
    in
    last_told c.args.session broken (λ (x : Kept). refl) k c.args.time older
    c.args.broken.items (Holds (kept_at c.args.time c.args.view.now)) c.args.steps.now.items _ _
    (c.loop-kept.invariant k older
    ∙ ap
    (λ (l : List Kept). c.args.steps.now.items
    ++ notes_steps k c.args.time older c.args.session (map broken l))
    all)
    (c.in_ok-push.ensures.items
    ∙ (λ j. c.loop-kept.steps.items
    ++ Tell (Hold c.args.time c.args.session (c.ssrc.ensures j) (c.seq.ensures j)) ∷ []))
